use Rattle.std.proofs.Common.{rules, ◌≡◌, length, ℕ, zip, sym, ◌∙◌, arith, subst, refl, Option, None}
use Rattle.sw_query.specs.declared.bound.Bound.{Bound}
use Rattle.sw_kernel.specs.Flat.{InOrder}
use Rattle.sw_kernel.specs.Partition.{head_of}
use Rattle.sw_kernel.specs.Replay.{crack_at}
use Rattle.sw_map.specs.Pieces.{IsLaidOut, pieces_between}
use Rattle.sw_map.proofs.Layouts.{zip-long}
use Rattle.sw_map.proofs.crack.crack_some.Goals as goal

pub returns-in_default-clause-cracked : goal.returns-in_default-clause-cracked
returns-in_default-clause-cracked c =
    let hs = c.args.head.now.items in let ts = c.args.tail.now.items in let ms = c.args.marks.now.items in
    let ln : length hs ≡ c.args.head.now.len = search rules in
    let lt : length ts ≡ c.args.tail.now.len = search rules in
    let same : length hs ≡ length ts = omega arith in
    let lz : length (zip hs ts) ≡ c.args.head.now.len = zip-long hs ts same ∙ ln in
    let o : InOrder 0 (length (zip hs ts)) ms = subst (λ (j : ℕ). InOrder 0 j ms) (sym lz) c.requires.order in
    let none : c.args.bound ≡ None = search rules in
    subst (λ (b : Option Bound). IsLaidOut (crack_at head_of b (pieces_between 0 (zip hs ts) ms)) (zip hs ts) ms) (sym none) (record { pieces = refl; order = o; rising = c.requires.rising })
