-- Which command ends the shell.
use Rattle.std.specs.Prelude.{Bool, true, false}
use Rattle.sw_shell.specs.declared.commands.Command.{Command}
use Rattle.sw_shell.specs.declared.commands.Command.TheVariants.{Quit}

abbrev pub quits : Command → Bool
quits Quit = true
quits command = false
