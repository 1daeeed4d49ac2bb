use Rattle.std.proofs.Common.{rules, ◌≡◌, ◌∙◌, ap, sym, map, [], ◌∷◌, ◌++◌, fold, arith, Some, None}
use Rattle.std.specs.Prelude.{string_bytes}
use Rattle.std.proofs.lemmas.List.{map-append}
use Rattle.std.proofs.lemmas.Str.Pattern.{split_parts}
use Rattle.sw_spine.specs.Printed.{Divided, divided, with_byte}
use Rattle.sw_spine.proofs.PrintedLemmas.{line_more, no_line_more}
use Rattle.sw_spine.proofs.printed.divide.Goals as goal

pub loop-line-preserved : goal.loop-line-preserved
loop-line-preserved c =
    let parts = split_parts 10 c.loop-line.rest.now (Some (c.in-Some.line, c.in-Some.after)) c.in-Some.ensures.cases (omega arith) in
    let lines = map (λ t. string_bytes t) c.loop-line.ended.items in
    let one : map (λ t. string_bytes t) c.push.new.self.items ≡ lines ++ c.in-Some.line.now ∷ [] = ap (map (λ t. string_bytes t)) c.in_ok-push.ensures.items ∙ map-append (λ t. string_bytes t) c.loop-line.ended.items (c.in_ok-from_str.field-0 ∷ []) ∙ ap (λ l. lines ++ l ∷ []) c.in_ok-from_str.ensures.ok in (
      search rules,
      ap (λ ls. fold with_byte (divided ls []) c.in-Some.after.now) one
          ∙ line_more c.loop-line.rest.now c.in-Some.line.now c.in-Some.after.now lines parts.0 parts.1
          ∙ c.loop-line.invariant.1,
    )

pub returns : goal.returns
returns c =
    let none = split_parts 10 c.loop-line.rest.now None c.in_default.ensures.cases (omega arith) in
    c.of.ensures ∙ ap (λ (d : Divided). d.ended) (sym (no_line_more c.loop-line.rest.now (map (λ t. string_bytes t) c.loop-line.ended.items) none) ∙ c.loop-line.invariant.1)
