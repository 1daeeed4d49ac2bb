use Rattle.std.proofs.Common.{◌∙◌, ◌∷◌, [], ◌++◌, ap, map, subst}
use Rattle.sw_lang.specs.PrintedCalls.{name_at}
use Rattle.sw_outputs.specs.Records.{IsMade}
use Rattle.sw_outputs.proofs.Making.{begins, ends, more, none_left}
use Rattle.sw_outputs.proofs.records.add_names.Goals as goal

pub loop-attr-init : goal.loop-attr-init
loop-attr-init c = begins c.args.records.now (map (name_at c.args.schema.now) c.args.attrs.now)

pub loop-attr-preserved : goal.loop-attr-preserved
loop-attr-preserved c =
    let f = name_at c.args.schema.now in
    more _ _ c.add.new.self _ _ (map f c.in-Some.later.now) (f c.in-Some.attr.now) c.loop-attr.invariant (ap (map f) c.in-Some.ensures.cases.0)
    (λ b fs m. subst (λ t. IsMade c.add.new.self b (fs ++ t ∷ [])) (c.as_bytes.ensures.value ∙ c.name_of-name.ensures) (c.in_ok-add.ensures b fs m))

pub returns : goal.returns
returns c = ends _ _ c.end.new.self _ _ c.loop-attr.invariant (ap (map (name_at c.args.schema.now)) (none_left c.loop-attr.rest.now c.in_default.ensures.cases)) c.in_ok-end.ensures
