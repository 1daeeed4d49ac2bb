-- Answers over codes are answers over texts.
use Rattle.std.proofs.Common.{◌≡◌, ◌∙◌, ap, sym, refl, subst, ℕ, ℤ, pos, negsuc, zero, suc, ◌+◌, ◌<◌, ◌≤◌, ◌==◌, All, Bool, true, false, not, cond, ◌&&◌, true≢false, List, [], ◌∷◌, ◌++◌, length, map, get_or, bytes_eq, arith, Option, Some, None, Ok, IsSome, is_some, int_lt, ltb, leb, replicate, ◌-◌}
use Rattle.std.proofs.lemmas.Bool.Decides.{Decides-eqb, nat_tests, same_from_decides}
use Rattle.std.proofs.lemmas.List.{length-map}
use Rattle.std.proofs.lemmas.Option.{same_Some}
use Rattle.std.proofs.lemmas.Slice.Eq.{bytes_eq-Decides}
use Rattle.std.specs.Bool.{Decides}
use Rattle.sw_query.specs.Bounds.{is_within}
use Rattle.sw_rows.specs.Domains.{Domain, IsDomain, IsOver, is_of_texts, over, under}
use Rattle.sw_rows.specs.Domains as kind
use Rattle.sw_rows.specs.Header.{Column, IsSchema, holding, kinds_of, texts_of}
use Rattle.sw_query.specs.Scan.{WantsBelow, answer, answer_over, cell_of, column, greatest, least, matching, meets, meets_all, projected, shown_cells, total}
use Rattle.sw_rows.specs.Spelling.{WriteCells, WriteRows, WritesCell}
use Rattle.sw_rows.specs.Tables.{Table, padded, row_of, table_of}
use Rattle.sw_rows.specs.TextRows.{AreCoded, AsksOfTexts, IsCoded, IsRowCoded, IsTextCond, RowSeen, SumsNumbers, answer_over_seen, answer_seen, as_list, cell_in, cell_seen, cells_seen, cond_seen, conds_seen, domain_at, domains_shown, equals, matching_seen, meets_all_seen, meets_seen, named_by, number, number_in, numbers, passes, plain, projected_seen, reply_seen, row_seen, rows, rows_seen, shown_seen, test_seen, text_or}
use Rattle.sw_rows.specs.Texts.{code_of, text_at, text_of, texts_differ, with_texts}
use Rattle.sw_query.specs.declared.bound.Bound.TheVariants as bound
use Rattle.sw_query.specs.declared.query.Cond.{Cond}
use Rattle.sw_query.specs.declared.query.Query.{Query}
use Rattle.sw_query.specs.declared.query.Want.{Want}
use Rattle.sw_query.specs.declared.query.Want.TheVariants as want
use Rattle.sw_query.specs.declared.reply.Reply.TheVariants as reply
use Rattle.sw_table.specs.declared.row.Row.{Row}
use Rattle.sw_rows.proofs.Tables.TableSpelling.{table_spelled}
use Rattle.sw_rows.proofs.Schemas.TextLaws.{code_only, code_there, text_of_kept}
use Rattle.sw_rows.proofs.Schemas.DomainLaws.{holding_kinds, kinds_long}

abbrev Texts : Type 0
Texts = List (List ℕ)

-- ---- cells

cell_there : (ds : List Domain) (zs : List ℤ) (a : ℕ) → a < length ds → get_or (cells_seen ds zs) a (number (pos 0)) ≡ cell_seen (domain_at ds a) (get_or zs a (pos 0))
cell_there [] zs a h = absurd (omega arith)
cell_there (d ∷ ds) [] zero h = refl
cell_there (d ∷ ds) [] (suc a) h = cell_there ds [] a (omega arith)
cell_there (d ∷ ds) (z ∷ zs) zero h = refl
cell_there (d ∷ ds) (z ∷ zs) (suc a) h = cell_there ds zs a (omega arith)

number_of : (d : Domain) (z : ℤ) → is_of_texts d ≡ false → number_in (cell_seen d z) ≡ z
number_of kind.Int z h = refl
number_of (kind.Fix places) z h = refl
number_of kind.Flag z h = refl
number_of (kind.Text texts) z h = absurd (true≢false h)

domain_sound : (cs : List Column) → All (λ c. IsDomain c.1) cs → (a : ℕ) → IsDomain (domain_at (kinds_of cs) a)
domain_sound [] h a = tt
domain_sound (c ∷ cs) h zero = h 0 c (omega arith)
domain_sound (c ∷ cs) h (suc a) = domain_sound cs (λ k d lt. h (suc k) d (omega arith)) a

-- ---- texts and codes

-- two codes are one just where their texts are
same_text : (ts : Texts) → texts_differ ts ≡ true → (m n : ℕ) (t u : List ℕ) → text_of ts m ≡ Some t → text_of ts n ≡ Some u → bytes_eq t u ≡ (m == n)
same_text ts d m n t u h k = same_from_decides (bytes_eq t u) (m == n) (bytes_eq-Decides t u) alike
  where
    to_text : m ≡ n → t ≡ u
    to_text e = same_Some t u (sym h ∙ ap (text_of ts) e ∙ k)

    to_code : t ≡ u → m ≡ n
    to_code e = same_Some m n (sym (code_there ts m t d h) ∙ ap (code_of ts) e ∙ code_there ts n u d k)

    alike : Decides (m == n) (t ≡ u)
    alike = let tells = Decides-eqb m n in (λ e. to_text (tells.0 e), λ e. tells.1 (to_code e))

-- what lies from a code up to one that is no greater is both
both_codes : (m a b : ℕ) → b ≤ a → ((m == a) && ((m == b) && true)) ≡ (not (ltb m a) && leb m b)
both_codes m a b h = grind (arith, nat_tests)

in_texts : (ts : Texts) → texts_differ ts ≡ true → (z first second : ℤ) → IsSome (text_at ts z) → IsSome (text_at ts first) → IsSome (text_at ts second) → int_lt first second ≡ false → passes (equals (as_list (text_at ts first) ++ as_list (text_at ts second))) (text_or z (text_at ts z)) ≡ is_within (Some (bound.Before first)) (Some (bound.After second)) z
in_texts ts d (negsuc m) first second hz hf hs le = absurd (true≢false (sym hz))
in_texts ts d (pos m) (negsuc a) second hz hf hs le = absurd (true≢false (sym hf))
in_texts ts d (pos m) (pos a) (negsuc b) hz hf hs le = absurd (true≢false (sym hs))
in_texts ts d (pos m) (pos a) (pos b) hz hf hs le = by_texts (text_of ts m) (text_of ts a) (text_of ts b) refl refl refl hz hf hs
  where
    below : b ≤ a
    below = grind (arith, nat_tests, le)

    by_texts : (o p q : Option (List ℕ)) → text_of ts m ≡ o → text_of ts a ≡ p → text_of ts b ≡ q → IsSome o → IsSome p → IsSome q → passes (equals (as_list p ++ as_list q)) (text_or (pos m) o) ≡ (not (ltb m a) && leb m b)
    by_texts None p q eo ep eq h k l = absurd (true≢false (sym h))
    by_texts (Some t) None q eo ep eq h k l = absurd (true≢false (sym k))
    by_texts (Some t) (Some u) None eo ep eq h k l = absurd (true≢false (sym l))
    by_texts (Some t) (Some u) (Some v) eo ep eq h k l = ap (λ b1. b1 && (bytes_eq t v && true)) (same_text ts d m a t u eo ep) ∙ ap (λ b2. (m == a) && (b2 && true)) (same_text ts d m b t v eo eq) ∙ both_codes m a b below

-- ---- conditions

same_test : (d : Domain) (z : ℤ) (c : Cond) → IsDomain d → IsCoded d z → IsTextCond d c → passes (test_seen d c.lower c.upper) (cell_seen d z) ≡ is_within c.lower c.upper z
same_test kind.Int z c s h k = refl
same_test (kind.Fix places) z c s h k = refl
same_test kind.Flag z c s h k = refl
same_test (kind.Text texts) z c s h k = ap (λ o. passes (equals (named_by texts o ++ named_by texts c.upper)) (text_or z (text_at texts z))) k.from_first ∙ ap (λ o. passes (equals (as_list (text_at texts k.first) ++ named_by texts o)) (text_or z (text_at texts z))) k.to_second ∙ in_texts texts s.distinct z k.first k.second h k.first_coded k.second_coded k.not_above ∙ ap (λ o. is_within o (Some (bound.After k.second)) z) (sym k.from_first) ∙ ap (λ o. is_within c.lower o z) (sym k.to_second)

-- what holds of attributes: each domain is sound
abbrev AreSound : List Domain → Type 0
AreSound ds = (a : ℕ) → IsDomain (domain_at ds a)

same_meets : (ds : List Domain) (r : Row) (c : Cond) → AreSound ds → IsRowCoded ds r → c.attr < length ds → IsTextCond (domain_at ds c.attr) c → meets_seen (row_seen ds r) (cond_seen ds c) ≡ meets r c
same_meets ds r c s h lt k = ap (passes (test_seen (domain_at ds c.attr) c.lower c.upper)) (cell_there ds r.cells c.attr lt) ∙ same_test (domain_at ds c.attr) (cell_of c.attr r) c (s c.attr) (h c.attr lt) k

same_meets_all : (ds : List Domain) (r : Row) (cs : List Cond) → AreSound ds → IsRowCoded ds r → All (λ c. c.attr < length ds) cs → All (λ c. IsTextCond (domain_at ds c.attr) c) cs → meets_all_seen (conds_seen ds cs) (row_seen ds r) ≡ meets_all cs r
same_meets_all ds r [] s h below conds = refl
same_meets_all ds r (c ∷ cs) s h below conds =
    let one = same_meets ds r c s h (below 0 c (omega arith)) (conds 0 c (omega arith)) in
    let others = same_meets_all ds r cs s h (λ k d lt. below (suc k) d (omega arith)) (λ k d lt. conds (suc k) d (omega arith)) in
    ap (λ b. b && meets_all_seen (conds_seen ds cs) (row_seen ds r)) one ∙ ap (λ b. meets r c && b) others

-- ---- rows

one_more : (ds : List Domain) (r : Row) (b b1 : Bool) (xs : List RowSeen) (ys : List Row) → b1 ≡ b → xs ≡ rows_seen ds ys → cond b1 (row_seen ds r ∷ xs) xs ≡ rows_seen ds (cond b (r ∷ ys) ys)
one_more ds r true b1 xs ys e h = ap (λ b. cond b (row_seen ds r ∷ xs) xs) e ∙ ap (λ us. row_seen ds r ∷ us) h
one_more ds r false b1 xs ys e h = ap (λ b. cond b (row_seen ds r ∷ xs) xs) e ∙ h

same_matching : (ds : List Domain) (cs : List Cond) (rs : List Row) → AreSound ds → AreCoded ds rs → All (λ c. c.attr < length ds) cs → All (λ c. IsTextCond (domain_at ds c.attr) c) cs → matching_seen (conds_seen ds cs) (rows_seen ds rs) ≡ rows_seen ds (matching cs rs)
same_matching ds cs [] s h below conds = refl
same_matching ds cs (r ∷ rs) s h below conds = one_more ds r (meets_all cs r) (meets_all_seen (conds_seen ds cs) (row_seen ds r)) (matching_seen (conds_seen ds cs) (rows_seen ds rs)) (matching cs rs) (same_meets_all ds r cs s (h 0 r (omega arith)) below conds) (same_matching ds cs rs s (λ k d lt. h (suc k) d (omega arith)) below conds)

-- ---- what is shown

same_cells : (ds : List Domain) (r : Row) (names : List ℕ) → All (λ a. a < length ds) names → map (λ a. cell_in a (row_seen ds r)) names ≡ cells_seen (map (domain_at ds) names) (shown_cells names r)
same_cells ds r [] h = refl
same_cells ds r (a ∷ names) h = ap (λ x. x ∷ map (λ n. cell_in n (row_seen ds r)) names) (cell_there ds r.cells a (h 0 a (omega arith))) ∙ ap (λ xs. cell_seen (domain_at ds a) (cell_of a r) ∷ xs) (same_cells ds r names (λ k d lt. h (suc k) d (omega arith)))

same_shown : (ds : List Domain) (names : List ℕ) (rs : List Row) → All (λ a. a < length ds) names → map (projected_seen names) (rows_seen ds rs) ≡ map (shown_seen (map (domain_at ds) names)) (map (projected names) rs)
same_shown ds names [] h = refl
same_shown ds names (r ∷ rs) h = cc (shown_row ds names r h, same_shown ds names rs h)
  where
    shown_row : (us : List Domain) (ns : List ℕ) (x : Row) → All (λ a. a < length us) ns → projected_seen ns (row_seen us x) ≡ shown_seen (map (domain_at us) ns) (projected ns x)
    shown_row us ns x g = ap (λ cells. record { key = x.key; cells = cells }) (same_cells us x ns g)

same_numbers : (ds : List Domain) (a : ℕ) (rs : List Row) → a < length ds → is_of_texts (domain_at ds a) ≡ false → numbers a (rows_seen ds rs) ≡ column a rs
same_numbers ds a [] lt h = refl
same_numbers ds a (r ∷ rs) lt h = ap (λ x. number_in x ∷ numbers a (rows_seen ds rs)) (cell_there ds r.cells a lt) ∙ ap (λ z. z ∷ numbers a (rows_seen ds rs)) (number_of (domain_at ds a) (cell_of a r) h) ∙ ap (λ zs. cell_of a r ∷ zs) (same_numbers ds a rs lt h)

-- ---- answers

same_over : (ds : List Domain) (rs : List Row) (w : Want) → WantsBelow (length ds) w → SumsNumbers ds w → answer_over_seen (rows_seen ds rs) w ≡ reply_seen (domains_shown ds w) (answer_over rs w)
same_over ds rs (want.Rows names) h k = ap rows (same_shown ds names rs h)
same_over ds rs want.Count h k = ap (λ n. plain (reply.Count n)) (length-map rs (row_seen ds))
same_over ds rs (want.Sum a) h k = ap (λ zs. plain (reply.Sum (total zs))) (same_numbers ds a rs h k)
same_over ds rs (want.Min a) h k = ap (λ zs. plain (reply.Least (least zs))) (same_numbers ds a rs h k)
same_over ds rs (want.Max a) h k = ap (λ zs. plain (reply.Least (greatest zs))) (same_numbers ds a rs h k)

sound : (columns : List Column) → IsSchema columns → AreSound (kinds_of columns)
sound columns s = domain_sound columns s.sound.domains

-- a row meets a condition where the row of its texts meets that on texts
pub meets_over_texts : (columns : List Column) (r : Row) (c : Cond) → IsSchema columns → c.attr < length columns → IsRowCoded (kinds_of columns) r → IsTextCond (domain_at (kinds_of columns) c.attr) c → meets_seen (row_seen (kinds_of columns) r) (cond_seen (kinds_of columns) c) ≡ meets r c
meets_over_texts columns r c s lt h k = same_meets (kinds_of columns) r c (sound columns s) h (subst (λ n. c.attr < n) (sym (kinds_long columns)) lt) k

-- the rows that match are those whose texts match
pub matching_over_texts : (columns : List Column) (rs : List Row) (q : Query) → IsSchema columns → AreCoded (kinds_of columns) rs → AsksOfTexts (kinds_of columns) q → matching_seen (conds_seen (kinds_of columns) q.conds) (rows_seen (kinds_of columns) rs) ≡ rows_seen (kinds_of columns) (matching q.conds rs)
matching_over_texts columns rs q s h asks = same_matching (kinds_of columns) q.conds rs (sound columns s) h asks.below.conds asks.conds

-- the answer, seen as texts, is the answer over texts
pub answer_over_texts : (columns : List Column) (rs : List Row) (q : Query) → IsSchema columns → AreCoded (kinds_of columns) rs → AsksOfTexts (kinds_of columns) q → answer_seen (rows_seen (kinds_of columns) rs) (conds_seen (kinds_of columns) q.conds) q.want ≡ reply_seen (domains_shown (kinds_of columns) q.want) (answer rs q)
answer_over_texts columns rs q s h asks = ap (λ us. answer_over_seen us q.want) (matching_over_texts columns rs q s h asks) ∙ same_over (kinds_of columns) (matching q.conds rs) q.want asks.below.want asks.sums

-- ---- tables that are read

cell_coded : (d : Domain) (t : List ℕ) (z : ℤ) → WritesCell d t z → IsCoded d z
cell_coded kind.Int t z w = tt
cell_coded (kind.Fix places) t z w = tt
cell_coded kind.Flag t z w = tt
cell_coded (kind.Text texts) t z w = let at = w.1 in ap (λ x. is_some (text_at texts x)) at.2 ∙ ap is_some (code_only texts at.0 t at.1)

cells_coded : (ds : List Domain) (ts : List (List ℕ)) (zs rest : List ℤ) → WriteCells ds ts zs → (a : ℕ) → a < length ds → IsCoded (domain_at ds a) (get_or (zs ++ rest) a (pos 0))
cells_coded [] ts zs rest w a h = absurd (omega arith)
cells_coded (d ∷ ds) [] zs rest w a h = absurd w
cells_coded (d ∷ ds) (t ∷ ts) [] rest w a h = absurd w
cells_coded (d ∷ ds) (t ∷ ts) (z ∷ zs) rest w zero h = cell_coded d t z w.0
cells_coded (d ∷ ds) (t ∷ ts) (z ∷ zs) rest w (suc a) h = cells_coded ds ts zs rest w.1 a (omega arith)

row_coded : (ds : List Domain) (key : ℕ) (ts : List (List ℕ)) (r : Row) (zs : List ℤ) → WriteCells ds ts zs → r ≡ row_of key (padded zs) → IsRowCoded ds r
row_coded ds key ts r zs w e a lt = subst (λ (x : Row). IsCoded (domain_at ds a) (cell_of a x)) (sym e) (cells_coded ds ts zs (replicate (8 - length zs) (pos 0)) w a lt)

rows_coded : (ds : List Domain) (key : ℕ) (ts : List (List (List ℕ))) (rs : List Row) → WriteRows ds key ts rs → AreCoded ds rs
rows_coded ds key [] [] w k d lt = absurd (omega arith)
rows_coded ds key [] (r ∷ rs) w k d lt = absurd w
rows_coded ds key (t ∷ ts) [] w k d lt = absurd w
rows_coded ds key (t ∷ ts) (r ∷ rs) w zero d lt = row_coded ds key t r w.0.0 w.0.1 w.0.2
rows_coded ds key (t ∷ ts) (r ∷ rs) w (suc k) d lt = rows_coded ds (key + 1) ts rs w.1 k d (omega arith)

-- the cells of a table have codes of its texts
pub table_coded : (bytes : List ℕ) (t : Table) → table_of bytes ≡ Ok t → AreCoded (kinds_of t.columns) t.rows
table_coded bytes t h = let w = table_spelled bytes t h in rows_coded (kinds_of t.columns) 1 w.others t.rows w.rows_are

-- ---- more texts

cell_kept : (ts more : Texts) (d : Domain) (z : ℤ) → IsOver ts d → IsCoded d z → IsCoded (over (with_texts ts more) d) z × (cell_seen (over (with_texts ts more) d) z ≡ cell_seen d z)
cell_kept ts more kind.Int z o h = (tt, refl)
cell_kept ts more (kind.Fix places) z o h = (tt, refl)
cell_kept ts more kind.Flag z o h = (tt, refl)
cell_kept ts more (kind.Text own) (negsuc m) o h = absurd (true≢false (sym h))
cell_kept ts more (kind.Text own) (pos m) o h = by_text (text_of own m) refl h
  where
    by_text : (p : Option (List ℕ)) → text_of own m ≡ p → IsSome p → IsSome (text_of (with_texts ts more) m) × (text_or (pos m) (text_of (with_texts ts more) m) ≡ text_or (pos m) (text_of own m))
    by_text None e k = absurd (true≢false (sym k))
    by_text (Some t) e k =
        let kept : text_of (with_texts ts more) m ≡ Some t = text_of_kept ts more t m (ap (λ us. text_of us m) (sym o) ∙ e) in
        (ap is_some kept, ap (text_or (pos m)) (kept ∙ sym e))

abbrev AreOver : Texts → List Domain → Type 0
AreOver ts ds = (a : ℕ) → a < length ds → IsOver ts (domain_at ds a)

abbrev CellsCoded : List Domain → List ℤ → Type 0
CellsCoded ds zs = (a : ℕ) → a < length ds → IsCoded (domain_at ds a) (get_or zs a (pos 0))

codes_kept : (ts more : Texts) (ds : List Domain) (zs : List ℤ) → AreOver ts ds → CellsCoded ds zs → CellsCoded (under (with_texts ts more) ds) zs
codes_kept ts more [] zs o h a lt = absurd (omega arith)
codes_kept ts more (d ∷ ds) [] o h zero lt = (cell_kept ts more d (pos 0) (o 0 (omega arith)) (h 0 (omega arith))).0
codes_kept ts more (d ∷ ds) (z ∷ zs) o h zero lt = (cell_kept ts more d z (o 0 (omega arith)) (h 0 (omega arith))).0
codes_kept ts more (d ∷ ds) [] o h (suc a) lt = codes_kept ts more ds [] (λ k below. o (suc k) (omega arith)) (λ k below. h (suc k) (omega arith)) a (omega arith)
codes_kept ts more (d ∷ ds) (z ∷ zs) o h (suc a) lt = codes_kept ts more ds zs (λ k below. o (suc k) (omega arith)) (λ k below. h (suc k) (omega arith)) a (omega arith)

cells_kept : (ts more : Texts) (ds : List Domain) (zs : List ℤ) → AreOver ts ds → CellsCoded ds zs → cells_seen (under (with_texts ts more) ds) zs ≡ cells_seen ds zs
cells_kept ts more [] zs o h = refl
cells_kept ts more (d ∷ ds) [] o h =
    ap (λ x. x ∷ cells_seen (under (with_texts ts more) ds) []) (cell_kept ts more d (pos 0) (o 0 (omega arith)) (h 0 (omega arith))).1 ∙ ap (λ xs. cell_seen d (pos 0) ∷ xs) (cells_kept ts more ds [] (λ k below. o (suc k) (omega arith)) (λ k below. h (suc k) (omega arith)))
cells_kept ts more (d ∷ ds) (z ∷ zs) o h =
    ap (λ x. x ∷ cells_seen (under (with_texts ts more) ds) zs) (cell_kept ts more d z (o 0 (omega arith)) (h 0 (omega arith))).1 ∙ ap (λ xs. cell_seen d z ∷ xs) (cells_kept ts more ds zs (λ k below. o (suc k) (omega arith)) (λ k below. h (suc k) (omega arith)))

rows_kept : (ts more : Texts) (ds : List Domain) (rs : List Row) → AreOver ts ds → AreCoded ds rs → rows_seen (under (with_texts ts more) ds) rs ≡ rows_seen ds rs
rows_kept ts more ds [] o h = refl
rows_kept ts more ds (r ∷ rs) o h =
    ap (λ cells. record { key = r.key; cells = cells } ∷ rows_seen (under (with_texts ts more) ds) rs) (cells_kept ts more ds r.cells o (h 0 r (omega arith))) ∙ ap (λ us. row_seen ds r ∷ us) (rows_kept ts more ds rs o (λ k d lt. h (suc k) d (omega arith)))

domains_over : (ts : Texts) (cs : List Column) → All (λ c. IsOver ts c.1) cs → AreOver ts (kinds_of cs)
domains_over ts [] h a lt = absurd (omega arith)
domains_over ts (c ∷ cs) h zero lt = h 0 c (omega arith)
domains_over ts (c ∷ cs) h (suc a) lt = domains_over ts cs (λ k d below. h (suc k) d (omega arith)) a (omega arith)

-- they still have when more texts are known
pub coded_still : (columns : List Column) (more : Texts) (rs : List Row) → IsSchema columns → AreCoded (kinds_of columns) rs → AreCoded (kinds_of (holding (with_texts (texts_of columns) more) columns)) rs
coded_still columns more rs s h = subst (λ ds. AreCoded ds rs) (sym (holding_kinds (with_texts (texts_of columns) more) columns)) (λ k d lt. codes_kept (texts_of columns) more (kinds_of columns) (get_or rs k d).cells (domains_over (texts_of columns) columns s.shared) (h k d lt))

-- and are seen as the same texts
pub seen_still : (columns : List Column) (more : Texts) (rs : List Row) → IsSchema columns → AreCoded (kinds_of columns) rs → rows_seen (kinds_of (holding (with_texts (texts_of columns) more) columns)) rs ≡ rows_seen (kinds_of columns) rs
seen_still columns more rs s h = ap (λ ds. rows_seen ds rs) (holding_kinds (with_texts (texts_of columns) more) columns) ∙ rows_kept (texts_of columns) more (kinds_of columns) rs (domains_over (texts_of columns) columns s.shared) h
