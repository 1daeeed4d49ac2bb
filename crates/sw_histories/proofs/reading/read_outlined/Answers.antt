use Rattle.std.proofs.Common.{◌≡◌, ◌∙◌, ◌≤◌, ◌<◌, ap, sym, subst, arith, codes, List, length, None, Some, Ok, Err, []}
use Rattle.std.specs.Prelude.{option_and_then, option_map}
use Rattle.serde_json.specs.Data.{object}
use Rattle.sw_rows.specs.Header.{Column}
use Rattle.sw_lang.specs.Reading.{Answers}
use Rattle.sw_spine.specs.History.{History}
use Rattle.sw_spine.specs.declared.history.Entry.{Entry}
use Rattle.sw_spine.specs.declared.spine.TheConstants.{MOST_ENTRIES}
use Rattle.sw_histories.specs.Outlines.{Stands, outside_of, read_as, record_in}
use Rattle.sw_histories.specs.Told.{◌>>=◌}
use Rattle.sw_histories.specs.RecordReading.{entries_after, frame, history_with}
use Rattle.sw_histories.proofs.Found.RecordReadingLemmas.{frame_sound}
use Rattle.sw_histories.proofs.Found.EntriesLemmas.{answers_bind, few_enough, no_entries, no_record, outer_none, outer_some, record_is, some_at, stood, too_many}
use Rattle.sw_histories.proofs.reading.read_outlined.Goals as goal

pub returns-in_default-clause-answers : goal.returns-in_default-clause-answers
returns-in_default-clause-answers c =
    let h = c.requires in
    let none = subst (λ o. Stands (codes "entries") o h.all h.begun) c.in_default.is h.entries in
    subst (λ e. Answers {A = History} (Err e) (record_in c.args.text.now)) (sym c.no_history.ensures) (no_record c.args.text.now h.all h.read (no_entries h.all none))

pub returns-in_default-read-clause-answers : goal.returns-in_default-read-clause-answers
returns-in_default-read-clause-answers c =
    let h = c.requires in
    let at = stood c.args.text.now c.args.outline c.in-Some.entries h c.in-Some.is in
    let seen : option_map read_as c.in-Ok.read ≡ outside_of (object h.all) = c.in-Ok.ensures ∙ ap (option_and_then outside_of) h.read in
    let none : None ≡ outside_of (object h.all) = sym (ap (option_map read_as) c.in_default-read.is) ∙ seen in
    subst (λ e. Answers {A = History} (Err e) (record_in c.args.text.now)) (sym c.no_history-in_default-read.ensures) (no_record c.args.text.now h.all h.read (outer_none h.all at.values at.there none))

pub returns-then-entries-gt-MOST_ENTRIES-clause-answers : goal.returns-then-entries-gt-MOST_ENTRIES-clause-answers
returns-then-entries-gt-MOST_ENTRIES-clause-answers c =
    let h = c.requires in
    let o = c.in-Some-read.outer in
    let at = stood c.args.text.now c.args.outline c.in-Some.entries h c.in-Some.is in
    let seen : option_map read_as c.in-Ok.read ≡ outside_of (object h.all) = c.in-Ok.ensures ∙ ap (option_and_then outside_of) h.read in
    let some : Some (frame o.schema o.format o.limit o.rows.items []) ≡ outside_of (object h.all) = sym (ap (option_map read_as) c.in-Some-read.is) ∙ seen in
    let f = frame o.schema o.format o.limit o.rows.items at.values in
    let many : MOST_ENTRIES < length at.values = at.counted.1 (omega arith) in
    record_is c.args.text.now h.all f h.read (outer_some h.all at.values o.schema o.format o.limit o.rows.items at.there some) ∙ too_many f many

pub invariant_of-result : goal.invariant_of-result
invariant_of-result c =
    let h = c.requires in
    let o = c.in-Some-read.outer in
    let at = stood c.args.text.now c.args.outline c.in-Some.entries h c.in-Some.is in
    let seen : option_map read_as c.in-Ok.read ≡ outside_of (object h.all) = c.in-Ok.ensures ∙ ap (option_and_then outside_of) h.read in
    let some : Some (frame o.schema o.format o.limit o.rows.items []) ≡ outside_of (object h.all) = sym (ap (option_map read_as) c.in-Some-read.is) ∙ seen in
    let sound = frame_sound (object h.all) (frame o.schema o.format o.limit o.rows.items at.values) (outer_some h.all at.values o.schema o.format o.limit o.rows.items at.there some) in
    record {
      some = sound.some;
      most = sound.most;
      few = sound.few;
      numbered = sound.numbered;
      short = c.in-Ok-read_entries_of.ensures.few;
      below = c.in-Ok-read_entries_of.ensures.below;
    }

pub returns-in-Ok-read_entries_of-clause-answers : goal.returns-in-Ok-read_entries_of-clause-answers
returns-in-Ok-read_entries_of-clause-answers c =
    let h = c.requires in
    let o = c.in-Some-read.outer in
    let at = stood c.args.text.now c.args.outline c.in-Some.entries h c.in-Some.is in
    let seen : option_map read_as c.in-Ok.read ≡ outside_of (object h.all) = c.in-Ok.ensures ∙ ap (option_and_then outside_of) h.read in
    let some : Some (frame o.schema o.format o.limit o.rows.items []) ≡ outside_of (object h.all) = sym (ap (option_map read_as) c.in-Some-read.is) ∙ seen in
    let f = frame o.schema o.format o.limit o.rows.items at.values in
    let count : c.in-Some.entries.count ≤ MOST_ENTRIES = omega arith in
    let few : length at.values ≤ MOST_ENTRIES = omega (arith, at.counted.0 count, count) in
    let read = some_at _ at.values _ at.stands c.in-Ok-read_entries_of.ensures.answers in
    record_is c.args.text.now h.all f h.read (outer_some h.all at.values o.schema o.format o.limit o.rows.items at.there some) ∙ few_enough f few ∙ ap (λ r. r >>= λ x. Ok (history_with f x)) read

pub returns-in-Err-clause-answers : goal.returns-in-Err-clause-answers
returns-in-Err-clause-answers c =
    let h = c.requires in
    let o = c.in-Some-read.outer in
    let at = stood c.args.text.now c.args.outline c.in-Some.entries h c.in-Some.is in
    let seen : option_map read_as c.in-Ok.read ≡ outside_of (object h.all) = c.in-Ok.ensures ∙ ap (option_and_then outside_of) h.read in
    let some : Some (frame o.schema o.format o.limit o.rows.items []) ≡ outside_of (object h.all) = sym (ap (option_map read_as) c.in-Some-read.is) ∙ seen in
    let f = frame o.schema o.format o.limit o.rows.items at.values in
    let count : c.in-Some.entries.count ≤ MOST_ENTRIES = omega arith in
    let few : length at.values ≤ MOST_ENTRIES = omega (arith, at.counted.0 count, count) in
    let read = some_at _ at.values _ at.stands c.in-Err.ensures.answers in
    let is = record_is c.args.text.now h.all f h.read (outer_some h.all at.values o.schema o.format o.limit o.rows.items at.there some) ∙ few_enough f few in
    subst (λ said. Answers {A = History} (Err c.in-Err.e) said) (sym is) (answers_bind {A = List Column × List Entry} {B = History} c.in-Err.e (entries_after o.format o.schema [] at.values) (λ x. Ok (history_with f x)) read)
