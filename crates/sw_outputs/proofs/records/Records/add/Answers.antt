use Rattle.std.proofs.Common.{◌∙◌, ◌∷◌, [], ◌++◌, ap}
use Rattle.csv.specs.Records.{partial_of}
use Rattle.sw_outputs.proofs.records.Records.add.Goals as goal

pub returns : goal.returns
returns c = λ bytes fields m. record {
  setup = m.setup;
  none = m.none;
  fresh = m.fresh;
  bytes_are = m.bytes_are;
  fields_are = c.in_ok-push_field.ensures.fields ∙ ap (λ fs. fs ++ (partial_of c.args.self.now.record ++ c.args.field.now) ∷ []) m.fields_are
      ∙ ap (λ p. fields ++ (p ++ c.args.field.now) ∷ []) m.no_part;
  no_part = c.in_ok-push_field.ensures.partial;
}
