-- A table that takes records in, one by one.
use Rattle.std.proofs.Common.{◌≡◌, ◌∙◌, ◌<◌, ◌≤◌, ◌≢◌, ◌+◌, ◌^◌, ◌++◌, ◌∷◌, [], ℕ, zero, suc, Bool, true, false, cond, List, length, get_or, set, inl, inr, refl, sym, ap, nat_eq, arith}
use Rattle.std.proofs.Math.Seq.{map-set_same, take-append_seam}
use Rattle.std.proofs.lemmas.List.{append-nil, append_assoc, get_or-map, get_or-set_same, get_or-set_other, length-append, length-map, length-replicate, length-set, map-set, take-append-le}
use Rattle.std.proofs.lemmas.List.Elements.{filter_map-append}
use Rattle.std.proofs.lemmas.List.Folds.{list_any-append}
use Rattle.std.proofs.lemmas.List.Sums.{count_by-le-length, sum_by-append}
use Rattle.std.proofs.lemmas.Bool.Decides.{nat_tests}
use Rattle.std.proofs.lemmas.Grind.{flat_map-append}
use Rattle.std.specs.Global.{Vec}
use Rattle.std.specs.Prelude.{is_some, replicate, take}
use Rattle.sw_import.specs.Imports.{header_of, is_fault, is_left_out, left_out_for, left_out_of, most_rows, row_if, rows_made, told_for}
use Rattle.sw_import.specs.Made.{row_made, sources_of}
use Rattle.sw_import.specs.Pages.{record_text, text_of}
use Rattle.sw_import.specs.Taken.{AreWanted, IsBegun, IsTableOf, TakesIn, TakesRest, TellsOneMore}
use Rattle.sw_import.specs.declared.evidence.Tally.{Tally}
use Rattle.sw_import.specs.declared.importing.How.{How}
use Rattle.sw_import.specs.declared.planning.Planned.{Planned}
use Rattle.sw_import.specs.declared.writing.Done.{Done}
use Rattle.sw_import.specs.declared.writing.Maker.{Maker}
use Rattle.sw_import.specs.declared.writing.Most.{Most}
use Rattle.sw_import.specs.declared.writing.Table.{Table}

-- the number of a column
count_of : Done → ℕ
count_of d = d.left_out.count

-- one more is told for the column at a place
pub tells_one : (ds : List Done) (place : ℕ) (was d : Done) → place < length ds
    → ((get_or ds place was).left_out.count + 1 < 2 ^ 64 → d.left_out.count ≡ (get_or ds place was).left_out.count + 1) → TellsOneMore place ds (set ds place d)
tells_one ds place was d inside more = (length-set ds place d, λ i within. at i (nat_eq place i) refl)
  where
    moved : (i : ℕ) → told_for i (set ds place d) ≡ get_or (set (left_out_of ds) place d.left_out.count) i 0
    moved i = ap (λ ns. get_or ns i 0) (map-set (λ (x : Done). x.left_out.count) ds place d)

    held : told_for place ds ≡ (get_or ds place was).left_out.count
    held = get_or-map (λ (x : Done). x.left_out.count) ds place was 0 inside

    more_told : told_for place ds + 1 < 2 ^ 64 → d.left_out.count ≡ told_for place ds + 1
    more_told few = more (rw held at few) ∙ ap (λ n. n + 1) (sym held)

    within_counts : place < length (left_out_of ds)
    within_counts = rw (length-map ds (λ (x : Done). x.left_out.count)) inside

    at : (i : ℕ) (b : Bool) → nat_eq place i ≡ b → told_for i ds + cond b 1 0 < 2 ^ 64 → told_for i (set ds place d) ≡ told_for i ds + cond b 1 0
    at i true e few =
        let is : place ≡ i = grind (arith, nat_tests) in
        rw (← is) (moved place ∙ get_or-set_same (left_out_of ds) place d.left_out.count 0 within_counts ∙ more_told (rw (← is) at few))
    at i false e few =
        let other : i ≢ place = grind (arith, nat_tests) in
        moved i ∙ get_or-set_other (left_out_of ds) place i d.left_out.count 0 other ∙ omega arith

-- nothing more is told
pub tells_same : (ds : List Done) (place : ℕ) (was d : Done) → d.left_out ≡ (get_or ds place was).left_out → left_out_of (set ds place d) ≡ left_out_of ds
tells_same ds place was d e = map-set_same (λ (x : Done). x.left_out.count) ds place d was (ap (λ (t : Tally). t.count) e)

-- past the last column nothing is told
pub tells_none : (ds : List Done) (place : ℕ) → length ds ≤ place → TellsOneMore place ds ds
tells_none ds place past = (refl, λ i within. at i within (nat_eq place i) refl)
  where
    at : (i : ℕ) → i < length ds → (b : Bool) → nat_eq place i ≡ b → told_for i ds + cond b 1 0 < 2 ^ 64 → told_for i ds ≡ told_for i ds + cond b 1 0
    at i within true e few = let is : place ≡ i = grind (arith, nat_tests) in absurd (omega arith)
    at i within false e few = omega arith

-- before any record nothing is told
pub told_nothing : (n : ℕ) (d : Done) (place : ℕ) → d.left_out.count ≡ 0 → told_for place (replicate n d) ≡ 0
told_nothing zero d place e = refl
told_nothing (suc n) d zero e = e
told_nothing (suc n) d (suc place) e = told_nothing n d place e

-- records, and then more
pub takes_more : (m : Maker) (xs ys : List (List (List ℕ))) (a b c : Table) → TakesIn m xs a b → TakesIn m ys b c → TakesIn m (xs ++ ys) a c
takes_more m xs ys a b c f g =
    let rows : List (List (List ℕ)) → List (List (List ℕ)) = rows_made m.rules.now (sources_of m.plan.now) in
    let both : rows (xs ++ ys) ≡ rows xs ++ rows ys = filter_map-append (λ r. row_if (row_made m.rules.now (sources_of m.plan.now) r)) xs ys in
    record {
      sound = list_any-append (λ r. is_fault (row_made m.rules.now (sources_of m.plan.now) r)) xs ys ∙ rw (f.sound, g.sound) refl;
      pages =
          g.pages ∙ rw f.pages (append_assoc a.pages (text_of (rows xs)) (text_of (rows ys)))
          ∙ ap (λ t. a.pages ++ t) (sym (flat_map-append record_text (rows xs) (rows ys)) ∙ ap text_of (sym both));
      rows = g.rows ∙ rw (f.rows, both, length-append (rows xs) (rows ys)) (omega arith);
      wide = g.wide ∙ f.wide;
      left_out = λ place inside few.
          let sum : left_out_for place m.rules.now (sources_of m.plan.now) (xs ++ ys) ≡ left_out_for place m.rules.now (sources_of m.plan.now) xs + left_out_for place m.rules.now (sources_of m.plan.now) ys =
          sum_by-append (λ r. cond (is_left_out place (row_made m.rules.now (sources_of m.plan.now) r)) 1 0) xs ys in
          let first = f.left_out place inside (omega arith) in
          let second = g.left_out place (rw f.wide inside) (omega arith) in
          omega arith;
    }

-- one more, where the sample wants a row
pub wanted_more : (m : Maker) (most : Most) (xs : List (List (List ℕ))) (r : List (List ℕ)) (a b : Table) → TakesIn m xs a b
    → (most.is_sample ≡ true → b.rows < most.rows) → AreWanted m most a xs → AreWanted m most a (xs ++ r ∷ [])
wanted_more m most xs r a b f now before n within sampled = at (nat_eq n (length xs)) refl
  where
    rows : List (List (List ℕ)) → List (List (List ℕ))
    rows = rows_made m.rules.now (sources_of m.plan.now)

    long : length (xs ++ r ∷ []) ≡ length xs + 1
    long = length-append xs (r ∷ [])

    at : (b : Bool) → nat_eq n (length xs) ≡ b → a.rows + length (rows (take n (xs ++ r ∷ []))) < most.rows
    at true e =
        let is : n ≡ length xs = grind (arith, nat_tests) in
        rw (is, take-append_seam xs (r ∷ [])) (rw f.rows at now sampled)
    at false e =
        let less : n < length xs = grind (arith, nat_tests, long, within, e) in
        rw (take-append-le n xs (r ∷ []) (omega arith)) (before n less sampled)

-- what was begun, and then took the records of a text in, is their table
pub table_of_all : (how : How) (m : Maker) (most : Most) (records : List (List (List ℕ))) (a b : Table) → m.rules.now ≡ how.rules
    → most.rows ≡ most_rows how.sample → most.is_sample ≡ is_some how.sample → IsBegun m.plan.now a → TakesRest m most records a b
    → length records < 2 ^ 64 → IsTableOf how m.plan.now records b
table_of_all how m most records a b rules limit sample begun rest few =
    let rows : List (List (List ℕ)) = rows_made m.rules.now (sources_of m.plan.now) rest.taken in
    rw (← rules) (record {
      taken = rest.taken;
      left = rest.left;
      whole = rest.whole;
      until = elim rest.until [
        | inl none ↦ inl none
        | inr full ↦ inr (sym sample ∙ full.0, full.1 ∙ limit)
      ];
      wanted = λ n inside sampled.
          let less = rest.wanted n inside (sample ∙ sampled) in
          omega (arith, less, begun.rows, limit);
      sound = rest.takes.sound;
      bytes = rest.takes.pages ∙ rw begun.pages (sym (flat_map-append record_text (header_of m.plan.now ∷ []) rows));
      rows = rest.takes.rows ∙ rw begun.rows (omega arith);
      left_out = λ place inside.
          let many : left_out_for place m.rules.now (sources_of m.plan.now) rest.taken ≤ length rest.taken = count_by-le-length (λ r. is_left_out place (row_made m.rules.now (sources_of m.plan.now) r)) rest.taken in
          let all : length records ≡ length rest.taken + length rest.left = ap length rest.whole ∙ length-append rest.taken rest.left in
          let none : told_for place a.done.items ≡ 0 = begun.none place in
          let told = rest.takes.left_out place (rw begun.wide inside) (omega arith) in
          told ∙ rw none (omega arith);
    })

-- a table to which its header was written, and nothing was told yet
pub begun_of : (plan : List Planned) (header : List (List ℕ)) (text : List ℕ) (done : Vec Done) (d : Done) → text ≡ record_text header → header ≡ header_of plan
    → done.items ≡ replicate (length plan) d → d.left_out.count ≡ 0 → IsBegun plan (record { pages = text; rows = 0; done = done })
begun_of plan header text done d pages is all none = record {
  pages = pages ∙ ap record_text is ∙ sym (append-nil (record_text (header_of plan)));
  rows = refl;
  wide = ap length all ∙ length-replicate (length plan) d;
  none = λ place. rw all (told_nothing (length plan) d place none);
}
