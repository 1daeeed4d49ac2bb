use Rattle.std.proofs.Common.{◌≡◌, ◌∙◌, ℕ, List, Option, None, Some, Result, Ok, ap, inl, length, subst, sym}
use Rattle.std.specs.Prelude.{IfSome}
use Rattle.sw_rows.specs.Header.{Column, IsSchema, texts_of}
use Rattle.sw_query.specs.declared.query.Call.{Call}
use Rattle.sw_query.specs.declared.refusal.Refusal.{Refusal}
use Rattle.sw_lang.proofs.Known.Knowing.{learned_width}
use Rattle.sw_spine.specs.History.{CallsBelow}
use Rattle.sw_solo.specs.Called.{SoloState}
use Rattle.sideways_c.specs.Executed.{IsExecuted, call_in}
use Rattle.sideways_c.proofs.Executing.{forgets, refused_same}
use Rattle.sideways_c.proofs.lines.execute.Goals as goal

pub returns-in-Ok-None : goal.returns-in-Ok-None
returns-in-Ok-None c =
    let s = c.args.solo.now in
    let many = c.texts_known-texts.ensures ∙ ap (λ (cs : List Column). length (texts_of cs)) c.schema-2.ensures in
    let same = forgets c.args.line.now s c.read.new.solo c.forget_texts.new.self c.texts_known-texts.result (subst IsSchema c.schema.ensures c.len-columns.ensures.schema) many c.in-Ok-None.ensures.learned c.forget_texts.ensures in
    let is : call_in s.history.columns c.args.line.now ≡ Ok None = c.in-Ok-None.ensures.spelled ∙ ap (λ (o : Option Call). Ok o) c.in-Ok-None.field-0-is in
    subst (λ (r : Result (Option Call) Refusal). IsExecuted c.args.session c.args.line.now r s c.forget_texts.new.self (Some c.new.result)) (sym is) (same, c.new.ensures.items)

pub call-requires-clause-below : goal.call-requires-clause-below
call-requires-clause-below c κs =
    let s = c.args.solo.now in
    let wide : length c.read.new.solo.history.columns ≡ length s.history.columns = ap (λ (x : SoloState). length x.history.columns) c.in-Ok-Some.ensures.learned ∙ learned_width s.history.columns c.args.line.now in
    let below : CallsBelow (length s.history.columns) c.in-Ok-Some.call = subst (λ (o : Option Call). IfSome o (CallsBelow (length s.history.columns))) c.in-Ok-Some.field-0-is c.in-Ok-Some.ensures.below in
    subst (λ (n : ℕ). CallsBelow n c.in-Ok-Some.call) (sym wide) below

pub returns : goal.returns
returns c =
    let s = c.args.solo.now in
    let many = c.texts_known-texts.ensures ∙ ap (λ (cs : List Column). length (texts_of cs)) c.schema-2.ensures in (
      forgets c.args.line.now s c.call.new.self c.forget_texts-in-Err-call.new.self c.texts_known-texts.result (subst IsSchema c.schema.ensures c.len-columns.ensures.schema) many (c.in-Err-call.ensures.kept ∙ c.in-Ok-Some.ensures.learned) c.forget_texts-in-Err-call.ensures,
      inl (refused_same c.args.line.now s c.read.new.solo c.in-Err-call.e c.in-Ok-Some.ensures.learned c.in-Err-call.ensures.refused),
    )
