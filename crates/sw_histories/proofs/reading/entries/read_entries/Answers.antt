use Rattle.std.proofs.Common.{◌≡◌, ◌+◌, ◌-◌, ◌<◌, ◌∷◌, [], ◌++◌, ◌∙◌, ap, sym, subst, length, arith, rules, None, Err, List, length-append}
use Rattle.std.proofs.lemmas.Option.{IfSome_then}
use Rattle.json.specs.Json.{after_end_array, value}
use Rattle.serde_json.specs.View.{view}
use Rattle.sw_rows.specs.Header.{Column}
use Rattle.sw_spine.specs.History.{AllBelow}
use Rattle.sw_spine.specs.declared.history.Entry.{Entry}
use Rattle.sw_spine.proofs.Histories.{below_push}
use Rattle.sw_lang.specs.Reading.{Answers}
use Rattle.sw_histories.specs.Outlines.{values_in}
use Rattle.sw_histories.specs.RecordReading.{entries_after, entry_learned}
use Rattle.sw_histories.proofs.Found.RecordReadingLemmas.{entries_step}
use Rattle.sw_histories.proofs.Found.LearnedTexts.{entry_width}
use Rattle.sw_histories.proofs.Found.EntriesLemmas.{entry_fault, value_more, value_there, values_over}
use Rattle.sw_histories.proofs.reading.entries.read_entries.Goals as goal

pub unreachable-requires : goal.unreachable-requires
unreachable-requires c =
    let l = c.entries in
    let going : (after_end_array l.reader ≡ None) × (c.take_end_array.new.self ≡ l.reader) = grind arith in
    value_there (value 125) l.invariant.0 l.reader l.invariant.1 going.0 (rw (← going.1) (c.read.ensures.err (grind arith))) l.invariant.3

pub returns-in-Err-clause-answers : goal.returns-in-Err-clause-answers
returns-in-Err-clause-answers c =
    let l = c.entries in
    let columns = l.schema in
    let es = l.entries.items in
    let d = view c.in-Ok.value in
    let going : (after_end_array l.reader ≡ None) × (c.take_end_array.new.self ≡ l.reader) = grind arith in
    let done = c.in-Ok.ensures in
    let r = c.read.new.reader in
    let less : length r < length l.reader = rw (← going.1) done.shorter in
    let more = value_more (value 125) l.invariant.0 l.reader r d l.invariant.1 (omega (arith, l.invariant.2, less)) going.0 (rw (← going.1) done.ok) l.invariant.3 in
    let place : c.len.result + 1 ≡ length es + 1 = ap (λ n. n + 1) (search rules) in
    let fault = entry_fault c.args.format columns es d more.0 (c.len.result + 1) c.in-Err.e place c.in-Err.ensures.answers in
    IfSome_then (values_in c.args.reader.now) l.invariant.6 (λ ds h. subst (λ said. Answers {A = List Column × List Entry} (Err c.in-Err.e) said) (sym (h ∙ ap (entries_after c.args.format columns es) more.1)) fault)

pub entries-preserved : goal.entries-preserved
entries-preserved c =
    let l = c.entries in
    let columns = l.schema in
    let next = c.take_entry.new.schema in
    let es = l.entries.items in
    let e = c.in-Ok-take_entry.entry in
    let d = view c.in-Ok.value in
    let going : (after_end_array l.reader ≡ None) × (c.take_end_array.new.self ≡ l.reader) = grind arith in
    let done = c.in-Ok.ensures in
    let r = c.read.new.reader in
    let less : length r < length l.reader = rw (← going.1) done.shorter in
    let more = value_more (value 125) l.invariant.0 l.reader r d l.invariant.1 (omega (arith, l.invariant.2, less)) going.0 (rw (← going.1) done.ok) l.invariant.3 in
    let kept : c.reserve.new.self.items ≡ es = c.reserve.ensures.items in
    let grown : c.push_reserved.new.self.items ≡ es ++ e ∷ [] = c.push_reserved.ensures.items ∙ ap (λ l. l ++ e ∷ []) kept in
    let place : c.len.result + 1 ≡ length es + 1 = ap (λ n. n + 1) (search rules) in
    let known : next ≡ entry_learned columns d = c.in-Ok-take_entry.ensures.learned in
    let wide : length next ≡ length columns = ap (λ cs. length cs) known ∙ entry_width columns d in
    let below : AllBelow (length next) es = subst (λ n. AllBelow n es) (sym wide) l.invariant.5 in (
      l.invariant.0 - 1,
      more.0,
      omega (arith, l.invariant.2, less),
      more.2,
      omega (arith, l.invariant.4, ap length grown ∙ length-append es (e ∷ []), ap length more.1),
      rw grown (below_push (length next) es e below c.in-Ok-take_entry.ensures.below),
      IfSome_then (values_in c.args.reader.now) l.invariant.6 (λ ds h. entries_step c.args.format columns next es c.push_reserved.new.self.items d more.0 e (c.len.result + 1) (entries_after c.args.format c.args.schema.now [] ds) (h ∙ ap (entries_after c.args.format columns es) more.1) place c.in-Ok-take_entry.ensures.answers known grown),
    )

pub returns-clause-answers : goal.returns-clause-answers
returns-clause-answers c =
    let l = c.entries in
    let over = values_over (value 125) l.invariant.0 l.reader c.take_end_array.new.self l.invariant.1 l.invariant.2 (grind arith) l.invariant.3 in
    IfSome_then (values_in c.args.reader.now) l.invariant.6 (λ ds h. h ∙ ap (entries_after c.args.format l.schema l.entries.items) over)
