use Rattle.std.proofs.Common.{rules, ◌≡◌, ◌∷◌, [], get_or, length, ap, ◌∙◌}
use Rattle.sw_table.specs.Packed.{Packed}
use Rattle.sw_chunks.proofs.Dealt.{one-part}
use Rattle.sw_chunks.proofs.dealing.parts_of.Goals as goal

pub returns-in-Ok-clause-parts : goal.returns-in-Ok-clause-parts
returns-in-Ok-clause-parts c k d i le =
    let none : length c.args.by.now.cuts.now ≡ 0 = search rules in
    let is : c.push.new.self.items ≡ c.args.rows ∷ [] = search rules in
    ap (λ l. (get_or l k d).items) is ∙ one-part (λ (v : Packed). v.items) c.args.by.now.attribute c.args.by.now.cuts.now c.args.rows k d i none le
