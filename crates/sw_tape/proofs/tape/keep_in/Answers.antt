use Rattle.std.proofs.Common.{◌∙◌, ap, map, refl, slice_set}
use Rattle.sw_tape.specs.declared.entry.Entry.TheVariants.{Load, Remove}
use Rattle.sw_tape.specs.Entries.{step_of}
use Rattle.sw_tape.proofs.InPlace.{put-back}
use Rattle.sw_tape.proofs.tape.keep_in.Goals as goal

pub returns-in-Err-clause-err : goal.returns-in-Err-clause-err
returns-in-Err-clause-err c = (
  ap (λ es. map step_of (slice_set es 0 (Load c.keep.new.self))) c.take_load-rows.ensures.rest ∙ put-back c.args.entries.now.items (Remove 0) c.keep.new.self c.requires.tape (c.in-Err.ensures.err ∙ c.take_load-rows.ensures.rows),
  refl,
)
