-- Texts that are told with their numbers.
use Rattle.std.proofs.Common.{◌≡◌, ◌∙◌, ◌<◌, ◌+◌, ℕ, zero, suc, List, [], ◌∷◌, ◌++◌, length, drop, get_or, Some, refl, sym, ap, arith}
use Rattle.std.proofs.lemmas.List.{append_assoc}
use Rattle.std.proofs.lemmas.Grind.{flat_map-append}
use Rattle.std.proofs.lemmas.Option.{get_or_from_slice_get}
use Rattle.std.specs.List.{flat_map}
use Rattle.sw_rows.proofs.Schemas.TextLaws.{text_next}
use Rattle.sw_rows.specs.Texts as coded
use Rattle.sw_import.specs.Numbered.{numbered, numbered_from}
use Rattle.sw_import.specs.Pages.{record_text, text_of}
use Rattle.sw_import.specs.declared.planning.Planned.{Planned}

-- the element at a place, and then those behind it
pub from_place : {A : Type 0} (xs : List A) (i : ℕ) (x : A) → i < length xs → x ≡ get_or xs i x → drop i xs ≡ x ∷ drop (i + 1) xs
from_place [] i x h e = absurd (omega arith)
from_place (y ∷ ys) zero x h e = ap (λ z. z ∷ ys) (sym e)
from_place (y ∷ ys) (suc i) x h e =
    let step : suc i + 1 ≡ suc (i + 1) = omega arith in
    rw step (from_place ys i x (omega arith) e)

-- past the last
pub past_last : {A : Type 0} (xs : List A) → drop (length xs) xs ≡ []
past_last [] = refl
past_last (x ∷ xs) = past_last xs

-- one text more
pub text_more : (old new whole name : List ℕ) (texts : List (List ℕ)) (i : ℕ) → i < length texts
    → new ≡ old ++ record_text (numbered name (i + 1) (get_or texts i []))
    → old ++ text_of (numbered_from (i + 1) name (drop i texts)) ≡ whole
    → new ++ text_of (numbered_from (i + 1 + 1) name (drop (i + 1) texts)) ≡ whole
text_more old new whole name texts i h e before =
    let t = get_or texts i [] in
    let rest = text_of (numbered_from (i + 1 + 1) name (drop (i + 1) texts)) in
    let at : drop i texts ≡ t ∷ drop (i + 1) texts = from_place texts i t h (same texts i h) in
    ap (λ xs. xs ++ rest) e
    ∙ append_assoc old (record_text (numbered name (i + 1) t)) rest
    ∙ ap (λ ts. old ++ text_of (numbered_from (i + 1) name ts)) (sym at)
    ∙ before
  where
    same : (xs : List (List ℕ)) (i : ℕ) → i < length xs → get_or xs i [] ≡ get_or xs i (get_or xs i [])
    same [] i h = absurd (omega arith)
    same (x ∷ xs) zero h = refl
    same (x ∷ xs) (suc i) h = same xs i (omega arith)

abbrev rows_of_one : Planned → List (List (List ℕ))
rows_of_one p = numbered_from 1 p.column.name p.dictionary

-- the texts of one column more
pub column_more : (old new whole : List ℕ) (plan : List Planned) (i : ℕ) (p : Planned) → i < length plan → p ≡ get_or plan i p
    → new ≡ old ++ text_of (rows_of_one p)
    → old ++ text_of (flat_map (λ q. rows_of_one q) (drop i plan)) ≡ whole
    → new ++ text_of (flat_map (λ q. rows_of_one q) (drop (i + 1) plan)) ≡ whole
column_more old new whole plan i p h e added before =
    let rest = flat_map (λ q. rows_of_one q) (drop (i + 1) plan) in
    let at : drop i plan ≡ p ∷ drop (i + 1) plan = from_place plan i p h e in
    ap (λ xs. xs ++ text_of rest) added
    ∙ append_assoc old (text_of (rows_of_one p)) (text_of rest)
    ∙ ap (λ xs. old ++ xs) (sym (flat_map-append record_text (rows_of_one p) rest))
    ∙ ap (λ ps. old ++ text_of (flat_map (λ q. rows_of_one q) ps)) (sym at)
    ∙ before

-- the text of a number is that at the place before
pub text_at : (texts : List (List ℕ)) (i : ℕ) (t : List ℕ) → Some t ≡ coded.text_of texts (i + 1) → t ≡ get_or texts i []
text_at texts i t e = sym (get_or_from_slice_get texts i t [] (sym (text_next texts i) ∙ sym e))
