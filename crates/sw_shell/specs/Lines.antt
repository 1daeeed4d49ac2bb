-- The lines that are entered.
use Rattle.std.specs.Prelude.{◌≡◌, ◌==◌, ◌&&◌, ℕ, Bool, true, false, List, [], ◌∷◌, Option, IfSome, codes, bytes_eq, take, drop}
use Rattle.std.specs.Char.{is_ascii_whitespace}
use Rattle.std.specs.List.{list_all}
use Rattle.std.specs.Io.{StopsAt}
use Rattle.std.specs.Io.BufRead.{DropsThrough, take_through}
use Rattle.bstr.specs.Text.{without_terminator}

-- whether a line is for the shell itself, and no call: it begins with a dot
abbrev pub is_command : List ℕ → Bool
is_command [] = false
is_command (b ∷ bs) = b == 46

-- whether a line ends the shell: it is `.quit`, and what stands behind that is white space
abbrev pub is_quit : List ℕ → Bool
is_quit line = bytes_eq (take 5 line) (codes ".quit") && list_all is_ascii_whitespace (drop 5 line)

-- the bytes up to the first line feed, that one too, are the line that a reader gave; where what it had left is known, they were the
-- first of it, and what is behind them is left
pub record IsNext (old new : Option (List ℕ)) (line : List ℕ) : Type 0 where
  pub one : StopsAt line 10
  pub first : IfSome old (λ xs. line ≡ take_through 10 xs)
  pub rest : DropsThrough old new 10

-- the next line was `.quit`
pub record IsQuit (old new : Option (List ℕ)) : Type 0 where
  pub line : List ℕ
  pub next : IsNext old new line
  pub ends : is_quit (without_terminator line) ≡ true
