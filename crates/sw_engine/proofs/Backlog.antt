-- A head that takes some of the updates that it lacks.
use Rattle.std.proofs.Common.{◌≡◌, ◌⊎◌, ⊎_elim, ℕ, ◌+◌, List, ◌++◌, length, take, drop, set, Bool, false, Some, refl, sym, ◌∙◌, ap, subst, arith, append_assoc, length-append}
use Rattle.std.specs.Prelude.{slice_get, slice_index}
use Rattle.std.proofs.lemmas.List.{take-append-drop}
use Rattle.std.proofs.Math.Seq.{take-append-add}
use Rattle.sw_rows.specs.Header.{Column}
use Rattle.sw_table.specs.declared.row.Row.{Row}
use Rattle.sw_table.specs.declared.row.Update.{Update}
use Rattle.sw_spine.specs.Books.{Books, KeepsOtherHeads, next_for, took, untaken, updates, with_taken}
use Rattle.sw_tie.specs.declared.Book.{Book}
use Rattle.sw_versions.specs.Known.{Shelved}
use Rattle.sw_engine.specs.Desk.{AreShown, IsDesk, IsSameButTaken, IsTied}
use Rattle.sw_engine.specs.Published.{AreBehind, EndsEntry, IsShelfOf}
use Rattle.sw_engine.proofs.Ties.{get_below, get_set, is_of_same, length_set}

-- ---- of the head

-- what was taken for it is what the spine says that it took
pub taken_is : (s b : Books) (rows heads : List (Books × Bool)) (m p : ℕ) (had : List Update) → IsTied s rows heads → slice_get heads m ≡ Some (b, false) → m ≡ p → had ≡ took p b → had ≡ took p s
taken_is s b rows heads m p had t at place is = is ∙ subst (λ (j : ℕ). took j b ≡ took j s) place (t.taken m (b, false) at)

-- how many it lacks
pub lacks : (s : Books) (p : ℕ) (had : List Update) → had ≡ took p s → length (updates s) ≡ length had + length (untaken p s)
lacks s p had is = ap length (sym (take-append-drop (slice_index s.taken p) (updates s))) ∙ (length-append (took p s) (untaken p s) ∙ ap (λ (us : List Update). length us + length (untaken p s)) (sym is))

-- with the next ones it has that many more
pub part_taken : (s : Books) (p most : ℕ) (had old new : List Update) → had ++ old ≡ took p s → new ≡ old ++ next_for p most s → had ++ new ≡ take (length (had ++ old) + most) (updates s)
part_taken s p most had old new is e =
    let all : (had ++ old) ++ untaken p s ≡ updates s = ap (λ us. us ++ untaken p s) is ∙ take-append-drop (slice_index s.taken p) (updates s) in
    ap (λ us. had ++ us) e ∙ (sym (append_assoc had old (next_for p most s)) ∙ (sym (take-append-add (had ++ old) (untaken p s) most) ∙ ap (λ us. take (length (had ++ old) + most) us) all))

-- with the next ones, what was taken for it is what the new books say that it took
pub part_took : (s x : Books) (p most : ℕ) (had old new : List Update) → had ++ old ≡ took p s → new ≡ old ++ next_for p most s → took p x ≡ took p s ++ next_for p most s → had ++ new ≡ took p x
part_took s x p most had old new is e more =
    ap (λ us. had ++ us) e ∙ (sym (append_assoc had old (next_for p most s)) ∙ (ap (λ us. us ++ next_for p most s) is ∙ sym more))

-- ---- of the desk

-- the books stay tied where a head takes some more, and its row shows the new ones
pub part_tied : (s x : Books) (rows heads heads' : List (Books × Bool)) (m p n : ℕ) (v : Books) → IsTied s rows heads → x ≡ with_taken p n s → KeepsOtherHeads p s x → m ≡ p → v ≡ x → heads' ≡ set heads m (v, false) → IsTied x rows heads'
part_tied s x rows heads heads' m p n v t is others place new are = rw (are, new) record {
  shown = subst (λ (b : Books). AreShown b rows) (sym is) (λ k r e. t.shown k r e);
  taken = λ j r e. ⊎_elim
      (λ q. subst (λ (u : Books × Bool). took j u.0 ≡ took j x) q.1 refl)
      (λ q. t.taken j r q.1 ∙ sym (others j (let low = get_below heads j r q.1 in omega (arith, t.few)) (λ e. q.0 (e ∙ sym place))))
      (get_set heads m j (x, false) r e);
  as_many = t.as_many ∙ sym (ap (λ (b : Books). b.sessions) is);
  few = let l = length_set heads m (x, false) in omega (arith, t.few, l);
}

-- the desk stays one where a head takes some more, and its row shows the new books
pub desk_part : (sn hn : ℕ) (columns : List Column) (opening : List Row) (limit may : ℕ) (s x : Books) (many most : ℕ) (sessions heads heads' : Book Books) (m p n : ℕ) (v : Books)
    → IsDesk sn hn columns opening limit may s many most sessions heads → x ≡ with_taken p n s → KeepsOtherHeads p s x → m ≡ p → heads'.name ≡ heads.name
    → heads'.rows ≡ set heads.rows m (v, false) → v ≡ x → IsDesk sn hn columns opening limit may x many most sessions heads'
desk_part sn hn columns opening limit may s x many most sessions heads heads' m p n v had is others place named rows new = record {
  sessions_named = had.sessions_named;
  heads_named = named ∙ had.heads_named;
  many_are = had.many_are;
  of = is_of_same columns opening limit s x had.of (ap (λ (b : Books). b.columns) is) (ap (λ (b : Books). b.rows) is) (ap (λ (b : Books). b.limit) is);
  tied = part_tied s x sessions.rows heads.rows heads'.rows m p n v had.tied is others place new rows;
  behind = subst (λ (b : Books). AreBehind limit opening b sessions.rows) (sym is) (λ k r e. had.behind k r e);
  ends = subst (λ (b : Books). EndsEntry limit opening b.entries b.published) (sym is) had.ends;
  most_is = had.most_is;
  few = had.few;
  within = let same = ap (λ (b : Books). b.sessions) is in let was = had.within in omega (arith, same, was);
}

-- ---- of the shelf

-- a shelf of books is one of books that differ in what heads have taken alone
pub shelf_part : (limit : ℕ) (opening : List Row) (b b' : Books) (s : Shelved) → IsShelfOf limit opening b s → IsSameButTaken b b' → IsShelfOf limit opening b' s
shelf_part limit opening b b' s is same = subst (λ (x : Books). IsShelfOf limit opening x s) (sym same) (record { booked = is.booked; ends = λ k. is.ends k; published = is.published; counted = is.counted })
