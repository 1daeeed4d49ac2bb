-- Texts of two parts, and rows whose texts have other codes.
use Rattle.std.proofs.Common.{◌≡◌, ◌∙◌, ap, sym, refl, subst, ℕ, ℤ, pos, zero, suc, ◌+◌, ◌-◌, ◌<◌, ◌==◌, ◌||◌, Bool, true, false, cond, true≢false, List, [], ◌∷◌, ◌++◌, length, map, min, replicate, take, ◌^◌, All, nat_eq, nat_lt, get_or, slice_get, bytes_eq, Option, Some, None, option_map, Result, Ok, Err, append-nil, append_assoc, length-append, arith}
use Rattle.std.proofs.Math.ListN.{set}
use Rattle.std.proofs.lemmas.Bool.{cond-false, cond-true, or_left, or_right}
use Rattle.std.proofs.lemmas.Bool.Decides.{nat_tests}
use Rattle.std.proofs.lemmas.Grind.{flat_map-append}
use Rattle.std.proofs.lemmas.List.{length-map, length-take-le, map-append, take_more}
use Rattle.std.proofs.lemmas.Option.{get_or_from_slice_get, none-some, same_Some, slice_get_within}
use Rattle.std.proofs.lemmas.Slice.Eq.{bytes_eq-Decides}
use Rattle.std.specs.Result.{is_err, is_ok}
use Rattle.sw_rows.specs.Cells.{cell_value}
use Rattle.sw_rows.specs.declared.kind.Kind.{Kind}
use Rattle.sw_rows.specs.declared.kind.Kind.TheVariants as word
use Rattle.sw_rows.specs.Domains.{Domain, domain, is_of_texts, over, under}
use Rattle.sw_rows.specs.Domains as kind
use Rattle.csv.specs.Reading.{default_config, records}
use Rattle.sw_rows.specs.Header.{Column, bad_table, holding, kinds_of, too_many}
use Rattle.sw_rows.specs.Parts.{AreCodes, AreRecordsOfBoth, IsPart, IsRead, cells_exchanged, row_exchanged, rows_behind, rows_joined}
use Rattle.sw_rows.specs.Tables.{◌>>=◌, cells_after, cells_of, fault_at, or_bad, padded, row_of, rows_after, seeing, table_with, text_fields, texts_in, then_padded}
use Rattle.sw_rows.specs.Texts.{are_full, code_given, code_of, has_text, is_text, text_of, with_text, with_texts}
use Rattle.sw_rows.specs.declared.table.TheConstants.{MOST_ROWS}
use Rattle.sw_rows.specs.declared.loading.text_parts.Part.{Part}
use Rattle.sw_table.specs.Exchanged.{exchanged, with_exchanged}
use Rattle.sw_table.specs.Packed.{Packed}
use Rattle.sw_table.specs.declared.row.Row.{Row}
use Rattle.sw_rows.proofs.Loads.PartLaws.{gives_part, rows_cut}
use Rattle.sw_rows.proofs.Options.{err-ok, if_ok, if_some, same_Ok, then_ok}
use Rattle.sw_rows.proofs.Tables.TableLemmas.{rows_step, table_read}
use Rattle.sw_rows.proofs.Schemas.TextLaws.{code_kept, code_only, coded_at, given_kept, text_next, with_more}

abbrev Texts : Type 0
Texts = List (List ℕ)

-- ---- texts added once more

-- a text that is among others, or for which there is no room
abbrev Settled : Texts → List ℕ → Type 0
Settled ts t = (has_text ts t || are_full ts) ≡ true

settled_same : (ts : Texts) (t : List ℕ) → Settled ts t → with_text ts t ≡ ts
settled_same ts t h = cond-true (has_text ts t || are_full ts) ts (ts ++ t ∷ []) h

has_more : (ts us : Texts) (t : List ℕ) → has_text ts t ≡ true → has_text (ts ++ us) t ≡ true
has_more [] us t h = absurd (true≢false (sym h))
has_more (s ∷ ts) us t h = by_test (bytes_eq t s) (has_more ts us t) h
  where
    by_test : (b : Bool) → (has_text ts t ≡ true → has_text (ts ++ us) t ≡ true) → (b || has_text ts t) ≡ true → (b || has_text (ts ++ us) t) ≡ true
    by_test true more k = refl
    by_test false more k = more k

has_last : (ts : Texts) (t : List ℕ) → has_text (ts ++ t ∷ []) t ≡ true
has_last [] t = or_left (bytes_eq t t) false ((bytes_eq-Decides t t).1 refl)
has_last (s ∷ ts) t = or_right (bytes_eq t s) (has_text (ts ++ t ∷ []) t) (has_last ts t)

full_more : (ts us : Texts) → are_full ts ≡ true → are_full (ts ++ us) ≡ true
full_more ts us h = let long = length-append ts us in grind (arith, nat_tests, h, long)

settled_more : (ts us : Texts) (t : List ℕ) → Settled ts t → Settled (ts ++ us) t
settled_more ts us t h = by_test (has_text ts t) refl h
  where
    by_test : (b : Bool) → has_text ts t ≡ b → (b || are_full ts) ≡ true → Settled (ts ++ us) t
    by_test true e k = or_left (has_text (ts ++ us) t) (are_full (ts ++ us)) (has_more ts us t e)
    by_test false e k = or_right (has_text (ts ++ us) t) (are_full (ts ++ us)) (full_more ts us k)

settled_with : (ts : Texts) (u t : List ℕ) → Settled ts t → Settled (with_text ts u) t
settled_with ts u t h = by_test (has_text ts u || are_full ts)
  where
    by_test : (b : Bool) → Settled (cond b ts (ts ++ u ∷ [])) t
    by_test true = h
    by_test false = settled_more ts (u ∷ []) t h

settled_by : (ts : Texts) (t : List ℕ) → Settled (with_text ts t) t
settled_by ts t = by_test (has_text ts t || are_full ts) refl
  where
    by_test : (b : Bool) → (has_text ts t || are_full ts) ≡ b → Settled (cond b ts (ts ++ t ∷ [])) t
    by_test true e = e
    by_test false e = or_left (has_text (ts ++ t ∷ []) t) (are_full (ts ++ t ∷ [])) (has_last ts t)

settled_after : (ts us : Texts) (t : List ℕ) → Settled ts t → Settled (with_texts ts us) t
settled_after ts [] t h = h
settled_after ts (u ∷ us) t h = settled_after (with_text ts u) us t (settled_with ts u t h)

-- each of the texts that were added is settled
settled_among : (ts us : Texts) (t : List ℕ) → has_text us t ≡ true → Settled (with_texts ts us) t
settled_among ts [] t h = absurd (true≢false (sym h))
settled_among ts (u ∷ us) t h = by_test (bytes_eq t u) refl h (settled_among (with_text ts u) us t)
  where
    by_test : (b : Bool) → bytes_eq t u ≡ b → (b || has_text us t) ≡ true → (has_text us t ≡ true → Settled (with_texts (with_text ts u) us) t) → Settled (with_texts (with_text ts u) us) t
    by_test true e k more = settled_after (with_text ts u) us t (subst (λ x. Settled (with_text ts u) x) (sym ((bytes_eq-Decides t u).0 e)) (settled_by ts u))
    by_test false e k more = more k

full_stays : (ts us : Texts) → are_full ts ≡ true → with_texts ts us ≡ ts
full_stays ts [] h = refl
full_stays ts (u ∷ us) h = ap (λ v. with_texts v us) (settled_same ts u (or_right (has_text ts u) (are_full ts) h)) ∙ full_stays ts us h

-- a text after texts is added after the texts that those were added to
added_again : (start ts : Texts) (t : List ℕ) → are_full ts ≡ false → with_texts start (with_text ts t) ≡ with_text (with_texts start ts) t
added_again start ts t room = by_test (has_text ts t) refl
  where
    by_test : (b : Bool) → has_text ts t ≡ b → with_texts start (cond (b || are_full ts) ts (ts ++ t ∷ [])) ≡ with_text (with_texts start ts) t
    by_test true e = sym (settled_same (with_texts start ts) t (settled_among start ts t e))
    by_test false e = ap (with_texts start) (cond-false (are_full ts) ts (ts ++ t ∷ []) room) ∙ with_more start ts (t ∷ [])

-- texts that were gathered without want of room, added to others
pub gathered : (start ts us : Texts) → are_full (with_texts ts us) ≡ false → with_texts start (with_texts ts us) ≡ with_texts (with_texts start ts) us
gathered start ts [] room = refl
gathered start ts (u ∷ us) room = by_room (are_full ts) refl (gathered start (with_text ts u) us room)
  where
    by_room : (b : Bool) → are_full ts ≡ b → with_texts start (with_texts (with_text ts u) us) ≡ with_texts (with_texts start (with_text ts u)) us → with_texts start (with_texts (with_text ts u) us) ≡ with_texts (with_text (with_texts start ts) u) us
    by_room true full more = absurd (true≢false (sym full ∙ ap are_full (sym (full_stays ts (u ∷ us) full)) ∙ room))
    by_room false none more = more ∙ ap (λ v. with_texts v us) (added_again start ts u none)

-- ---- codes

-- codes stay right as texts are added
pub codes_kept : (ts us more : Texts) (codes : List ℤ) → AreCodes ts us codes → AreCodes ts (with_texts us more) codes
codes_kept ts us more codes h = λ i t e. (let at = h i t e in (at.0, code_kept us more t at.0 at.1, at.2))

exchanged_is : (codes : List ℤ) (i code : ℕ) → slice_get codes i ≡ Some (pos code) → exchanged codes (pos (i + 1)) ≡ pos code
exchanged_is codes i code h =
    let none : (i + 1 == 0) ≡ false = grind (arith, nat_tests) in
    let e : i + 1 - 1 ≡ i = omega arith in
    cond-false (i + 1 == 0) (pos (i + 1)) (get_or codes (i + 1 - 1) (pos (i + 1))) none ∙ ap (λ n. get_or codes n (pos (i + 1))) e ∙ get_or_from_slice_get codes i (pos code) (pos (i + 1)) h

cell_coded : (ts us : Texts) (codes : List ℤ) (d : Domain) (t : List ℕ) (z : ℤ) → AreCodes ts us codes → cell_value (over ts d) t ≡ Some z → cell_value (over us d) t ≡ Some (cond (is_of_texts d) (exchanged codes z) z)
cell_coded ts us codes kind.Int t z h e = e
cell_coded ts us codes (kind.Fix places) t z h e = e
cell_coded ts us codes kind.Flag t z h e = e
cell_coded ts us codes (kind.Text own) t z h e =
    let is = if_some (is_text t) (option_map pos (code_of ts t)) z e in
    cond-true (is_text t) (option_map pos (code_of us t)) None is.0 ∙ by_code (code_of ts t) refl is.1
  where
    by_code : (o : Option ℕ) → code_of ts t ≡ o → option_map pos o ≡ Some z → option_map pos (code_of us t) ≡ Some (exchanged codes z)
    by_code None k f = absurd (none-some z f)
    by_code (Some c) k f =
        let at = coded_at ts c t (code_only ts c t k) in
        let new = h at.0 t at.2 in
        ap (option_map pos) new.1 ∙ ap (λ y. Some y) (sym (exchanged_is codes at.0 new.0 new.2) ∙ ap (λ n. exchanged codes (pos n)) at.1 ∙ ap (exchanged codes) (same_Some (pos c) z f))

cells_coded_after : (ts us : Texts) (codes : List ℤ) → AreCodes ts us codes → (rec : ℕ) (done new : List ℤ) (ds : List Domain) (fields : List (List ℕ)) (cells : List ℤ) → cells_after rec done (under ts ds) fields ≡ Ok cells
    → (rest : List ℤ) × (cells ≡ done ++ rest) × (cells_after rec new (under us ds) fields ≡ Ok (new ++ cells_exchanged ds codes rest))
cells_coded_after ts us codes h rec done new [] fields cells e = ([], sym (same_Ok done cells e) ∙ sym (append-nil done), ap (λ v. Ok v) (sym (append-nil new)))
cells_coded_after ts us codes h rec done new (d ∷ ds) [] cells e = ([], sym (same_Ok done cells e) ∙ sym (append-nil done), ap (λ v. Ok v) (sym (append-nil new)))
cells_coded_after ts us codes h rec done new (d ∷ ds) (t ∷ fields) cells e =
    by_value (cell_value (over ts d) t) refl e (λ z e'. cells_coded_after ts us codes h rec (done ++ z ∷ []) (new ++ cond (is_of_texts d) (exchanged codes z) z ∷ []) ds fields cells e')
  where
    Given : ℤ → Type 0
    Given z = (rest : List ℤ) × (cells ≡ (done ++ z ∷ []) ++ rest) × (cells_after rec (new ++ cond (is_of_texts d) (exchanged codes z) z ∷ []) (under us ds) fields ≡ Ok ((new ++ cond (is_of_texts d) (exchanged codes z) z ∷ []) ++ cells_exchanged ds codes rest))

    by_value : (o : Option ℤ) → cell_value (over ts d) t ≡ o → or_bad (fault_at rec (length done + 1) (over ts d) t) o (λ z. cells_after rec (done ++ z ∷ []) (under ts ds) fields) ≡ Ok cells
        → ((z : ℤ) → cells_after rec (done ++ z ∷ []) (under ts ds) fields ≡ Ok cells → Given z)
        → (rest : List ℤ) × (cells ≡ done ++ rest) × (or_bad (fault_at rec (length new + 1) (over us d) t) (cell_value (over us d) t) (λ z. cells_after rec (new ++ z ∷ []) (under us ds) fields) ≡ Ok (new ++ cells_exchanged (d ∷ ds) codes rest))
    by_value None k f more = absurd (err-ok (fault_at rec (length done + 1) (over ts d) t) cells f)
    by_value (Some z) k f more =
        let next = more z f in
        let y = cond (is_of_texts d) (exchanged codes z) z in (
          z ∷ next.0,
          next.1 ∙ append_assoc done (z ∷ []) next.0,
          ap (λ o. or_bad (fault_at rec (length new + 1) (over us d) t) o (λ x. cells_after rec (new ++ x ∷ []) (under us ds) fields)) (cell_coded ts us codes d t z h k) ∙ next.2 ∙ ap (λ v. Ok v) (append_assoc new (y ∷ []) (cells_exchanged ds codes next.0)),
        )

under_long : (ts us : Texts) (ds : List Domain) → length (under ts ds) ≡ length (under us ds)
under_long ts us ds = length-map ds (over ts) ∙ sym (length-map ds (over us))

cells_of_coded : (ts us : Texts) (codes : List ℤ) → AreCodes ts us codes → (rec : ℕ) (ds : List Domain) (fields : List (List ℕ)) (cells : List ℤ) → cells_of rec (under ts ds) fields ≡ Ok cells
    → cells_of rec (under us ds) fields ≡ Ok (cells_exchanged ds codes cells)
cells_of_coded ts us codes h rec ds fields cells e =
    let parts = if_ok (nat_eq (length fields) (length (under ts ds))) (cells_after rec [] (under ts ds) fields) (bad_table rec (min (length fields) (length (under ts ds)) + 1)) cells e in
    let read = cells_coded_after ts us codes h rec [] [] ds fields cells parts.1 in
    cond-true (nat_eq (length fields) (length (under us ds))) (cells_after rec [] (under us ds) fields) (Err (bad_table rec (min (length fields) (length (under us ds)) + 1))) (ap (nat_eq (length fields)) (under_long us ts ds) ∙ parts.0)
    ∙ read.2 ∙ ap (λ v. Ok (cells_exchanged ds codes v)) (sym read.1)

zero_coded : (b : Bool) (codes : List ℤ) → cond b (exchanged codes (pos 0)) (pos 0) ≡ pos 0
zero_coded true codes = refl
zero_coded false codes = refl

zeros_coded : (ds : List Domain) (codes : List ℤ) (m : ℕ) → cells_exchanged ds codes (replicate m (pos 0)) ≡ replicate m (pos 0)
zeros_coded [] codes m = refl
zeros_coded (d ∷ ds) codes zero = refl
zeros_coded (d ∷ ds) codes (suc m) = ap (λ z. z ∷ cells_exchanged ds codes (replicate m (pos 0))) (zero_coded (is_of_texts d) codes) ∙ ap (λ zs. pos 0 ∷ zs) (zeros_coded ds codes m)

coded_pad : (ds : List Domain) (codes cells : List ℤ) (m : ℕ) → cells_exchanged ds codes (cells ++ replicate m (pos 0)) ≡ cells_exchanged ds codes cells ++ replicate m (pos 0)
coded_pad [] codes cells m = refl
coded_pad (d ∷ ds) codes [] m = zeros_coded (d ∷ ds) codes m
coded_pad (d ∷ ds) codes (z ∷ zs) m = ap (λ v. cond (is_of_texts d) (exchanged codes z) z ∷ v) (coded_pad ds codes zs m)

coded_long : (ds : List Domain) (codes cells : List ℤ) → length (cells_exchanged ds codes cells) ≡ length cells
coded_long [] codes cells = refl
coded_long (d ∷ ds) codes [] = refl
coded_long (d ∷ ds) codes (z ∷ zs) = ap suc (coded_long ds codes zs)

padded_coded : (ds : List Domain) (codes cells : List ℤ) → padded (cells_exchanged ds codes cells) ≡ cells_exchanged ds codes (padded cells)
padded_coded ds codes cells = ap (λ n. cells_exchanged ds codes cells ++ replicate (8 - n) (pos 0)) (coded_long ds codes cells) ∙ sym (coded_pad ds codes cells (8 - length cells))

record_coded : (ts us : Texts) (codes : List ℤ) → AreCodes ts us codes → (rec : ℕ) (ds : List Domain) (fields : List (List ℕ)) (cells : List ℤ) → then_padded (cells_of rec (under ts ds) fields) ≡ Ok cells
    → then_padded (cells_of rec (under us ds) fields) ≡ Ok (cells_exchanged ds codes cells)
record_coded ts us codes h rec ds fields cells e =
    let read = then_ok (cells_of rec (under ts ds) fields) (λ (v : List ℤ). Ok (padded v)) cells e in
    ap then_padded (cells_of_coded ts us codes h rec ds fields read.0 read.1) ∙ ap (λ v. Ok v) (padded_coded ds codes read.0 ∙ ap (cells_exchanged ds codes) (same_Ok (padded read.0) cells read.2))

-- the rows of records over other texts
pub rows_coded : (ts us : Texts) (codes : List ℤ) → AreCodes ts us codes → (ds : List Domain) (ys : List (List (List ℕ))) (done rows : List Row) → rows_after (under ts ds) done ys ≡ Ok rows
    → rows_after (under us ds) (map (row_exchanged ds codes) done) ys ≡ Ok (map (row_exchanged ds codes) rows)
rows_coded ts us codes h ds [] done rows e = ap (λ v. Ok (map (row_exchanged ds codes) v)) (same_Ok done rows e)
rows_coded ts us codes h ds (y ∷ ys) done rows e =
    let f = row_exchanged ds codes in
    let ks = under ts ds in
    let js = under us ds in
    let new = map f done in
    let same : length new ≡ length done = length-map done f in
    let parts = if_ok (nat_lt (length done) MOST_ROWS) (then_padded (cells_of (length done + 1) ks y) >>= λ cells. rows_after ks (done ++ row_of (length done + 1) cells ∷ []) ys) (too_many MOST_ROWS) rows e in
    let read = then_ok (then_padded (cells_of (length done + 1) ks y)) (λ (cells : List ℤ). rows_after ks (done ++ row_of (length done + 1) cells ∷ []) ys) rows parts.1 in
    let lt : length new < MOST_ROWS = let there = parts.0 in grind (arith, nat_tests, there, same) in
    let one = ap (λ n. then_padded (cells_of (n + 1) js y)) same ∙ record_coded ts us codes h (length done + 1) ds y read.0 read.1 in
    rows_step js new y ys (cells_exchanged ds codes read.0) lt one
    ∙ ap (λ n. rows_after js (new ++ row_of (n + 1) (cells_exchanged ds codes read.0) ∷ []) ys) same
    ∙ ap (λ v. rows_after js v ys) (sym (map-append f done (row_of (length done + 1) read.0 ∷ [])))
    ∙ rows_coded ts us codes h ds ys (done ++ row_of (length done + 1) read.0 ∷ []) rows read.2

-- ---- attributes one after another

-- the cell of one attribute more
coded_text : (ds : List Domain) (codes cells : List ℤ) (i : ℕ) (d : Domain) → slice_get ds i ≡ Some d → is_of_texts d ≡ true
    → cells_exchanged (take (suc i) ds) codes cells ≡ set (cells_exchanged (take i ds) codes cells) i (exchanged codes (get_or (cells_exchanged (take i ds) codes cells) i (pos 0)))
coded_text [] codes cells i d e h = absurd (none-some d e)
coded_text (b ∷ ds) codes [] zero d e h = refl
coded_text (b ∷ ds) codes (z ∷ zs) zero d e h = ap (λ x. cond x (exchanged codes z) z ∷ zs) (ap is_of_texts (same_Some b d e) ∙ h)
coded_text (b ∷ ds) codes [] (suc i) d e h = refl
coded_text (b ∷ ds) codes (z ∷ zs) (suc i) d e h = ap (λ v. cond (is_of_texts b) (exchanged codes z) z ∷ v) (coded_text ds codes zs i d e h)

-- or one that is not of texts
coded_number : (ds : List Domain) (codes cells : List ℤ) (i : ℕ) (d : Domain) → slice_get ds i ≡ Some d → is_of_texts d ≡ false
    → cells_exchanged (take (suc i) ds) codes cells ≡ cells_exchanged (take i ds) codes cells
coded_number [] codes cells i d e h = absurd (none-some d e)
coded_number (b ∷ ds) codes [] zero d e h = refl
coded_number (b ∷ ds) codes (z ∷ zs) zero d e h = ap (λ x. cond x (exchanged codes z) z ∷ zs) (ap is_of_texts (same_Some b d e) ∙ h)
coded_number (b ∷ ds) codes [] (suc i) d e h = refl
coded_number (b ∷ ds) codes (z ∷ zs) (suc i) d e h = ap (λ v. cond (is_of_texts b) (exchanged codes z) z ∷ v) (coded_number ds codes zs i d e h)

abbrev with_cells : Row → List ℤ → Row
with_cells r cells = record r { cells = cells }

-- one attribute of texts more has its cells exchanged
pub text_further : (ds : List Domain) (codes : List ℤ) (rs : List Row) (i : ℕ) (d : Domain) → slice_get ds i ≡ Some d → is_of_texts d ≡ true
    → map (with_exchanged i codes) (map (row_exchanged (take i ds) codes) rs) ≡ map (row_exchanged (take (i + 1) ds) codes) rs
text_further ds codes [] i d e h = refl
text_further ds codes (r ∷ rs) i d e h =
    let next : suc i ≡ i + 1 = omega arith in
    ap (λ v. with_cells r v ∷ map (with_exchanged i codes) (map (row_exchanged (take i ds) codes) rs)) (sym (coded_text ds codes r.cells i d e h) ∙ ap (λ n. cells_exchanged (take n ds) codes r.cells) next)
    ∙ ap (λ v. row_exchanged (take (i + 1) ds) codes r ∷ v) (text_further ds codes rs i d e h)

-- an attribute of numbers has no cells to exchange
pub number_further : (ds : List Domain) (codes : List ℤ) (rs : List Row) (i : ℕ) (d : Domain) → slice_get ds i ≡ Some d → is_of_texts d ≡ false
    → map (row_exchanged (take i ds) codes) rs ≡ map (row_exchanged (take (i + 1) ds) codes) rs
number_further ds codes [] i d e h = refl
number_further ds codes (r ∷ rs) i d e h =
    let next : suc i ≡ i + 1 = omega arith in
    ap (λ v. with_cells r v ∷ map (row_exchanged (take i ds) codes) rs) (sym (coded_number ds codes r.cells i d e h) ∙ ap (λ n. cells_exchanged (take n ds) codes r.cells) next)
    ∙ ap (λ v. row_exchanged (take (i + 1) ds) codes r ∷ v) (number_further ds codes rs i d e h)

-- where no attribute is of texts rows stay
pub none_coded : (codes : List ℤ) (rs : List Row) → map (row_exchanged [] codes) rs ≡ rs
none_coded codes [] = refl
none_coded codes (r ∷ rs) = ap (λ v. r ∷ v) (none_coded codes rs)

keys_low : (ds : List Domain) (codes : List ℤ) (rs : List Row) → All (λ r. r.key < 2 ^ 63) rs → All (λ r. r.key < 2 ^ 63) (map (row_exchanged ds codes) rs)
keys_low ds codes [] h i d lt = absurd (omega (arith, lt))
keys_low ds codes (r ∷ rs) h zero d lt = h zero d (omega arith)
keys_low ds codes (r ∷ rs) h (suc i) d lt = keys_low ds codes rs (λ k e le. h (suc k) e (omega (arith, le))) i d (omega (arith, lt))

-- a part whose cells were exchanged
pub part_coded : (ds : List Domain) (codes : List ℤ) (n : ℕ) (old new : Packed) → IsPart n old → new ≡ record old { items = map (row_exchanged ds codes) old.items } → IsPart n new
part_coded ds codes n old new h e = subst (λ p. IsPart n p) (sym e) (record {
  few = let long = length-map old.items (row_exchanged ds codes) in let few = h.few in omega (arith, long, few);
  keys = keys_low ds codes old.items h.keys;
  width = h.width;
})

-- ---- parts

texts_in_both : (ds : List Domain) (xs ys : List (List (List ℕ))) → texts_in ds (xs ++ ys) ≡ texts_in ds xs ++ texts_in ds ys
texts_in_both ds xs ys = flat_map-append (text_fields ds) xs ys

-- the texts of two parts are those of both one after the other
texts_joined : (ds : List Domain) (xs ys : List (List (List ℕ))) (ts us : Texts) → ts ≡ with_texts [] (texts_in ds xs) → us ≡ with_texts [] (texts_in ds ys) → are_full us ≡ false
    → with_texts ts us ≡ with_texts [] (texts_in ds (xs ++ ys))
texts_joined ds xs ys ts us first rest room =
    let start = with_texts [] (texts_in ds xs) in
    ap (with_texts ts) rest ∙ gathered ts [] (texts_in ds ys) (ap are_full (sym rest) ∙ room) ∙ ap (λ v. with_texts v (texts_in ds ys)) first ∙ sym (with_more [] (texts_in ds xs) (texts_in ds ys)) ∙ ap (with_texts []) (sym (texts_in_both ds xs ys))

rows_both : (ds : List Domain) (xs ys : List (List (List ℕ))) (ts us more : Texts) (codes : List ℤ) (r s all : List Row) → ((m : Texts) → rows_after (under (with_texts ts m) ds) [] xs ≡ Ok r) → ((m : Texts) → rows_after (under (with_texts us m) ds) [] ys ≡ Ok s) → AreCodes us (with_texts ts us) codes
    → rows_behind r (Ok (map (row_exchanged ds codes) s)) ≡ Ok all → rows_after (under (with_texts (with_texts ts us) more) ds) [] (xs ++ ys) ≡ Ok all
rows_both ds xs ys ts us more codes r s all first rest h e =
    let seen = with_texts (with_texts ts us) more in
    let one : rows_after (under seen ds) [] xs ≡ Ok r = ap (λ v. rows_after (under v ds) [] xs) (sym (with_more ts us more)) ∙ first (us ++ more) in
    let other : rows_after (under seen ds) [] ys ≡ Ok (map (row_exchanged ds codes) s) = rows_coded us seen codes (codes_kept us (with_texts ts us) more codes h) ds ys [] s (rest []) in
    rows_cut (under seen ds) xs ys ∙ ap (λ o. rows_joined o (rows_after (under seen ds) [] ys)) one ∙ ap (rows_behind r) other ∙ e

-- the rows of two parts, those of the second with codes among all texts, are those of the whole
pub parts_joined : (cs : List Column) (a b whole : List ℕ) (first rest all : Part) (codes : List ℤ) → AreRecordsOfBoth a b whole → IsRead cs a first → IsRead cs b rest → are_full rest.texts ≡ false
    → all.texts ≡ with_texts first.texts rest.texts → AreCodes rest.texts all.texts codes → rows_behind first.rows.items (Ok (map (row_exchanged (kinds_of cs) codes) rest.rows.items)) ≡ Ok all.rows.items → all.rows.width ≡ length cs
    → IsRead cs whole all
parts_joined cs a b whole first rest all codes both one other room texts given rows width =
    let ds = kinds_of cs in
    let xs = records default_config a in
    let ys = records default_config b in
    let read = λ (more : Texts). ap (λ v. rows_after (under (with_texts v more) ds) [] (records default_config whole)) texts ∙ ap (rows_after (under (with_texts (with_texts first.texts rest.texts) more) ds) []) both
    ∙ rows_both ds xs ys first.texts rest.texts more codes first.rows.items rest.rows.items all.rows.items one.rows other.rows (subst (λ v. AreCodes rest.texts v codes) texts given) rows in
    record {
      texts = texts ∙ texts_joined ds xs ys first.texts rest.texts one.texts other.texts room ∙ ap (λ v. with_texts [] (texts_in ds v)) (sym both);
      rows = read;
      part = gives_part (under (with_texts all.texts []) ds) (records default_config whole) (length cs) (Ok all.rows) (read []) width;
    }

-- a part as it is read over no texts
pub part_read : (cs : List Column) (text : List ℕ) (part : Part) (start : Texts) (left : List (List (List ℕ))) → start ≡ [] → left ≡ records default_config text
    → ((more : Texts) → rows_after (under (with_texts start (texts_in (kinds_of cs) left ++ more)) (kinds_of cs)) [] left ≡ Ok part.rows.items) → part.texts ≡ with_texts start (texts_in (kinds_of cs) left) → part.rows.width ≡ length cs
    → IsRead cs text part
part_read cs text part start left none all rows texts width =
    let ds = kinds_of cs in
    let read = λ (more : Texts). ap (λ v. rows_after (under (with_texts part.texts more) ds) [] v) (sym all) ∙ ap (λ v. rows_after (under v ds) [] left) (ap (λ v. with_texts v more) texts ∙ sym (with_more start (texts_in ds left) more)) ∙ rows more in
    record {
      texts = texts ∙ ap (λ v. with_texts v (texts_in ds left)) none ∙ ap (λ v. with_texts [] (texts_in ds v)) all;
      rows = read;
      part = gives_part (under (with_texts part.texts []) ds) (records default_config text) (length cs) (Ok part.rows) (read []) width;
    }

-- ---- a code for one text more

snoc_cases : {A P : Type 0} (xs : List A) (y : A) (k : ℕ) (u : A) → slice_get (xs ++ y ∷ []) k ≡ Some u → (slice_get xs k ≡ Some u → P) → (k ≡ length xs → y ≡ u → P) → P
snoc_cases [] y zero u h f g = g refl (same_Some y u h)
snoc_cases [] y (suc k) u h f g = absurd (none-some u h)
snoc_cases (x ∷ xs) y zero u h f g = f h
snoc_cases (x ∷ xs) y (suc k) u h f g = snoc_cases xs y k u h f (λ e q. g (ap suc e) q)

at_kept : {A : Type 0} (xs ys : List A) (k : ℕ) (u : A) → slice_get xs k ≡ Some u → slice_get (xs ++ ys) k ≡ Some u
at_kept [] ys k u h = absurd (none-some u h)
at_kept (x ∷ xs) ys zero u h = h
at_kept (x ∷ xs) ys (suc k) u h = at_kept xs ys k u h

at_end : {A : Type 0} (xs : List A) (y : A) → slice_get (xs ++ y ∷ []) (length xs) ≡ Some y
at_end [] y = refl
at_end (x ∷ xs) y = at_end xs y

-- the text of a code stands one place before it
pub text_there : (ts : Texts) (i : ℕ) (t : List ℕ) → Some t ≡ text_of ts (i + 1) → slice_get ts i ≡ Some t
text_there ts i t h = sym (text_next ts i) ∙ sym h

next_text : (ts : Texts) (i : ℕ) (t : List ℕ) → slice_get ts i ≡ Some t → take (i + 1) ts ≡ take i ts ++ t ∷ []
next_text ts i t h = take_more ts i [] (slice_get_within ts i t h) ∙ ap (λ u. take i ts ++ u ∷ []) (get_or_from_slice_get ts i t [] h)

-- one text more was added
pub text_added : (start ts us : Texts) (i : ℕ) (t : List ℕ) → slice_get ts i ≡ Some t → us ≡ with_texts start (take i ts) → with_text us t ≡ with_texts start (take (i + 1) ts)
text_added start ts us i t h e = ap (λ v. with_text v t) e ∙ sym (with_more start (take i ts) (t ∷ [])) ∙ ap (with_texts start) (sym (next_text ts i t h))

abbrev Coded : Texts → List ℤ → ℕ → List ℕ → Type 0
Coded us codes k u = (code : ℕ) × (code_of us u ≡ Some code) × (slice_get codes k ≡ Some (pos code))

coded_still : (us : Texts) (codes : List ℤ) (k : ℕ) (u t : List ℕ) (z : ℤ) → Coded us codes k u → Coded (with_text us t) (codes ++ z ∷ []) k u
coded_still us codes k u t z at = (at.0, code_kept us (t ∷ []) u at.0 at.1, at_kept codes (z ∷ []) k (pos at.0) at.2)

coded_now : (us : Texts) (codes : List ℤ) (k : ℕ) (u t : List ℕ) (code : ℕ) → k ≡ length codes → t ≡ u → code_given us t ≡ Ok code → Coded (with_text us t) (codes ++ pos code ∷ []) k u
coded_now us codes k u t code is same given = (
  code,
  ap (code_of (with_text us t)) (sym same) ∙ given_kept us t code given,
  ap (slice_get (codes ++ pos code ∷ [])) is ∙ at_end codes (pos code),
)

-- one code more was found
pub code_pushed : (ts us : Texts) (codes : List ℤ) (i : ℕ) (t : List ℕ) (code : ℕ) → slice_get ts i ≡ Some t → AreCodes (take i ts) us codes → length codes ≡ i → code_given us t ≡ Ok code
    → AreCodes (take (i + 1) ts) (with_text us t) (codes ++ pos code ∷ [])
code_pushed ts us codes i t code h all long given = λ k u e.
    let inside = slice_get_within ts i t h in
    let many : length (take i ts) ≡ i = length-take-le i ts (omega (arith, inside)) in
    snoc_cases (take i ts) t k u (ap (λ v. slice_get v k) (sym (next_text ts i t h)) ∙ e)
    (λ is. coded_still us codes k u t (pos code) (all k u is))
    (λ is same. coded_now us codes k u t code (is ∙ many ∙ sym long) same given)

-- a kind that is not of texts has a domain that is not
pub not_text : (k : Kind) → (k ≡ word.Text → ⊥) → is_of_texts (domain [] k) ≡ false
not_text word.Int h = refl
not_text (word.Fix places) h = refl
not_text word.Flag h = refl
not_text word.Text h = absurd (h refl)

-- what was pushed without an error
pub pushed : {A B X : Type 0} (r : Result A B) (new old now : X) → is_err r ≡ false → now ≡ cond (is_ok r) new old → now ≡ new
pushed (Ok x) new old now h e = e
pushed (Err x) new old now h e = absurd (true≢false h)

-- codes are right for texts and codes that are the same
pub codes_are : (ts us vs : Texts) (codes news : List ℤ) → us ≡ vs → codes ≡ news → AreCodes ts vs news → AreCodes ts us codes
codes_are ts us vs codes news e f h = subst (λ v. AreCodes ts v codes) (sym e) (subst (λ v. AreCodes ts vs v) (sym f) h)

-- a part of so many columns, by an equal number
pub part_under : (n m : ℕ) (p : Packed) → m ≡ n → IsPart n p → IsPart m p
part_under n m p e h = subst (λ k. IsPart k p) (sym e) h

-- the table of a part that is the whole
pub table_joined : (cs schema : List Column) (text : List ℕ) (read : Part) → IsRead cs text read → schema ≡ holding read.texts cs
    → table_with (seeing cs (records default_config text)) (records default_config text) ≡ Ok (record { columns = schema; rows = read.rows.items })
table_joined cs schema text read is e =
    let rs = records default_config text in
    let ds = kinds_of cs in
    let rows = ap (λ v. rows_after (under v ds) [] rs) (ap (with_texts []) (append-nil (texts_in ds rs)) ∙ sym is.texts) ∙ is.rows [] in
    table_read cs rs read.rows.items rows ∙ ap (λ v. Ok (record { columns = v; rows = read.rows.items })) (ap (λ v. holding v cs) (sym is.texts) ∙ sym e)
