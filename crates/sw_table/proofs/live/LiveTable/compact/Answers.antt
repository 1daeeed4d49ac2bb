use Rattle.std.proofs.Common.{◌≡◌, ◌∙◌, ap, subst, sym, List, Bool, length, replicate, true, arith, rules}
use Rattle.std.proofs.lemmas.List.{length-take-le}
use Rattle.std.specs.Vec.{vec_len}
use Rattle.sw_table.specs.Kept.{kept}
use Rattle.sw_table.specs.Live.{Living, live_rows}
use Rattle.sw_table.specs.Packed.{Packed}
use Rattle.sw_table.proofs.LiveLaws.{kept-all, kept-long}
use Rattle.sw_table.proofs.LiveFlags.{false-none, flags-all}
use Rattle.sw_table.proofs.Standing.{standing-compact}
use Rattle.sw_table.proofs.live.LiveTable.compact.Goals as goal

pub invariant_of-self-2 : goal.invariant_of-self-2
invariant_of-self-2 c =
    let s = c.self.inside in let fs = s.live.items in
    let came : c.keep.new.self.items ≡ kept fs s.came.items = ap (λ (v : Packed). v.items) c.in_ok-keep.ensures.ok ∙ ap (λ (v : List Bool). kept v s.came.items) c.deref.ensures.value in
    let long : c.len.result ≡ length (kept fs s.came.items) = c.len.ensures.many ∙ ap length came in
    let few = kept-long fs s.came.items c.self.invariant.many in
    let cut : vec_len c.truncate.new.self ≡ c.len.result = (search rules) ∙ ap length c.truncate.ensures.items ∙ length-take-le c.len.result fs (omega (arith, long, few)) in
    let live : c.fill.new.self.items ≡ replicate (vec_len c.truncate.new.self) true = c.fill.ensures.items (λ y h. h) in
    rw (came, live) (standing-compact s.top s.came.items fs s.dead (vec_len c.truncate.new.self) c.self.invariant (cut ∙ long))

-- all flags are true: no row is left out
pub returns-then-self-eq0-clause-ok : goal.returns-then-self-eq0-clause-ok
returns-then-self-eq0-clause-ok c =
    let s = c.self.inside in
    let none = false-none s.live.items (sym c.self.invariant.gone ∙ c.if-self-eq0.true) in
    subst (λ (v : Living). v.came ≡ live_rows v) c.self.view_is (sym (kept-all s.live.items s.came.items c.self.invariant.many none))

pub returns-then-self-eq0-clause-live : goal.returns-then-self-eq0-clause-live
returns-then-self-eq0-clause-live c =
    let s = c.self.inside in
    subst (λ (v : Living). v.live ≡ replicate (length v.came) true) c.self.view_is (flags-all (length s.came.items) s.live.items c.self.invariant.many (sym c.self.invariant.gone ∙ c.if-self-eq0.true))

pub returns-clause-ok : goal.returns-clause-ok
returns-clause-ok c =
    let s = c.self.inside in
    ap (λ (v : Packed). v.items) c.in_ok-keep.ensures.ok ∙ ap (λ (v : List Bool). kept v s.came.items) c.deref.ensures.value ∙ ap (λ (v : Living). live_rows v) c.self.view_is

pub returns-clause-live : goal.returns-clause-live
returns-clause-live c =
    let s = c.self.inside in let fs = s.live.items in
    let came : c.keep.new.self.items ≡ kept fs s.came.items = ap (λ (v : Packed). v.items) c.in_ok-keep.ensures.ok ∙ ap (λ (v : List Bool). kept v s.came.items) c.deref.ensures.value in
    let long : c.len.result ≡ length (kept fs s.came.items) = c.len.ensures.many ∙ ap length came in
    let few = kept-long fs s.came.items c.self.invariant.many in
    let cut : vec_len c.truncate.new.self ≡ c.len.result = (search rules) ∙ ap length c.truncate.ensures.items ∙ length-take-le c.len.result fs (omega (arith, long, few)) in
    c.fill.ensures.items (λ y h. h) ∙ ap (λ n. replicate n true) (cut ∙ c.len.ensures.many)
