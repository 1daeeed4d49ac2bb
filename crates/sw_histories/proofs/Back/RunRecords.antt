-- The text of a run's record is read as that record.
use Rattle.std.proofs.Common.{◌≡◌, ◌∙◌, sym, ap, refl, subst, ℕ, ℤ, pos, negsuc, suc, ◌+◌, ◌-◌, ◌<◌, ◌≤◌, ◌^◌, ◌==◌, ◌&&◌, ◌||◌, ◌⊎◌, Bool, true, false, true≢false, cond, if◌then◌else◌, List, [], ◌∷◌, ◌++◌, arith, codes, length, map, replicate, All, Option, Some, None, Ok, nat_eq, nat_le, inl, inr, append_assoc, append-nil, length-append, eqb-true, le-leb, lt-ltb}
use Rattle.std.specs.Prelude.{IsSome, filter_map, flat_map, not, option_and_then, option_map, unwrap_or}
use Rattle.std.specs.List.{AllByRecursion, cons_option, list_all, list_any}
use Rattle.std.specs.Result.{result_ok}
use Rattle.std.proofs.lemmas.Bool.{and_parts, false≢true}
use Rattle.std.proofs.lemmas.Bool.Decides.{nat_tests}
use Rattle.std.proofs.lemmas.List.{length-map}
use Rattle.std.proofs.lemmas.Option.{slice_get_within}
use Rattle.std.proofs.lemmas.List.Elements.{All-append, All-cons, All-head, All-nil, All-replicate, All-same, All-tail}
use Rattle.serde_json.specs.Data.{number, string}
use Rattle.serde_json.specs.Find.{of_integer}
use Rattle.serde_json.specs.View.{items_of}
use Rattle.sw_rows.specs.Domains.{IsDomain}
use Rattle.sw_rows.specs.Header.{Column, IsSchema, has_texts, header_of, holding, is_name, kinds_of, texts_of}
use Rattle.sw_rows.specs.Spelling.{WriteColumns, kind_text}
use Rattle.sw_rows.specs.Tables.{padded, row_of}
use Rattle.sw_rows.specs.Domains.{Domain, IsFresh, IsOver, is_of_texts, over, under}
use Rattle.sw_rows.specs.Domains as kind
use Rattle.sw_table.specs.declared.row.Row.{Row}
use Rattle.sw_query.specs.declared.query.Call.{Call}
use Rattle.sw_rows.specs.Texts.{AreTexts, code_of, text_at, text_of, with_texts}
use Rattle.sw_rows.proofs.Schemas.ColumnLemmas.{no_texts}
use Rattle.sw_rows.proofs.Schemas.DomainLaws.{holding_again, holding_kinds, holding_of_texts, kinds_of_texts, schema_holding, texts_of_holding}
use Rattle.sw_rows.proofs.Schemas.HeaderSpelling.{header_read_back}
use Rattle.sw_rows.proofs.Schemas.TextLaws.{code_there, coded_at, text_sound, with_more}
use Rattle.sw_lang.specs.Learning.{knowing, learned, texts_in_line}
use Rattle.sw_lang.proofs.Known.Knowing.{none_known, nothing_more, numbers_held, texts_known}
use Rattle.sw_spine.proofs.PrintedLemmas.{AreSound, both, kinds_sound}
use Rattle.sw_lang.specs.Grammar.{IsLine}
use Rattle.sw_lang.specs.PrintedCalls.{call_text}
use Rattle.sw_lang.specs.Replies.{reply_lines}
use Rattle.sw_lang.specs.Tokens.{tokens}
use Rattle.sw_lang.proofs.Printed.Length.{call_short}
use Rattle.sw_lang.proofs.Printed.ReadBack.{call_back, no_comment}
use Rattle.sw_spine.specs.History.{History}
use Rattle.sw_spine.specs.Table.{is_numbered}
use Rattle.sw_spine.specs.declared.history.Entry.{Entry}
use Rattle.sw_spine.specs.declared.history.State.{State}
use Rattle.sw_rows.specs.declared.table.TheConstants.{MOST_ROWS}
use Rattle.sw_spine.specs.declared.history.State.TheVariants as state
use Rattle.sw_spine.specs.declared.spine.TheConstants.{MOST_ENTRIES, MOST_SESSIONS}
use Rattle.sw_histories.specs.RecordReading.{cell_in, cells_after, cells_of, format_in, header_in, in_range, items_list, may_stand, number_in, of_kind, row_in, row_texts, rows_after, rows_in, rows_up_to, state_of, text_in, texts_after, with_row}
use Rattle.sw_histories.proofs.Found.ReadParts.{AreReadEntries, IsReadEntry, IsReadRecord}
use Rattle.sw_histories.specs.RecordText.{attribute_text, cell_data, cells_data, entry_data, format_of, has_delete_where, is_delete_where, least_format, list_data, record_data, record_text, row_data, state_data}
use Rattle.sw_histories.specs.ReadBack.{AreCells, HasCells, HasWords, IsCalled, IsCellOf, IsOfRun, IsStateOf, IsWord, KnowsInOrder, RecordsAreReadBack, entry_in_lines, in_lines, with_lines}
use Rattle.sw_histories.proofs.Found.LearnedTexts.{one_more}
use Rattle.sw_histories.proofs.Found.NarrowedLines.{coded_in, line_narrowed}
use Rattle.sw_histories.proofs.Back.RecordBack.{record_read}
use Rattle.sw_histories.proofs.Back.RecordLaws.{record_only}
use Rattle.sw_histories.proofs.Found.RecordReadingLemmas.{list_items}
use Rattle.sw_histories.proofs.Back.RecordTexts.{record_utf8}

abbrev Texts : Type 0
Texts = List (List ℕ)

-- ---- texts

texts_again : (done ts : List (List ℕ)) → texts_after done (map (λ t. string t) ts) ≡ Some (done ++ ts)
texts_again done [] = ap (λ l. Some l) (sym (append-nil done))
texts_again done (t ∷ ts) = texts_again (done ++ t ∷ []) ts ∙ ap (λ l. Some l) (append_assoc done (t ∷ []) ts)

-- texts that were written as strings are read as those texts
pub texts_back : (ts : List (List ℕ)) → texts_after [] (items_list (items_of (map (λ t. string t) ts))) ≡ Some ts
texts_back ts = ap (texts_after []) (list_items (map (λ t. string t) ts)) ∙ texts_again [] ts

-- ---- the header

kind_again : (k : Domain) → kind_text (over [] k) ≡ kind_text k
kind_again kind.Int = refl
kind_again (kind.Fix places) = refl
kind_again kind.Flag = refl
kind_again (kind.Text texts) = refl

fresh_again : (k : Domain) → IsDomain k → IsFresh (over [] k)
fresh_again kind.Int s = tt
fresh_again (kind.Fix places) s = s
fresh_again kind.Flag s = tt
fresh_again (kind.Text texts) s = refl

columns_written : (cs : List Column) → list_all (λ c. is_name c.0) cs ≡ true → All (λ c. IsDomain c.1) cs → WriteColumns (map attribute_text cs) (holding [] cs)
columns_written [] h p = tt
columns_written (c ∷ cs) h p =
    let parts = and_parts (is_name c.0) (list_all (λ d. is_name d.0) cs) h in
    let text : attribute_text c ≡ attribute_text (c.0, over [] c.1) = ap (λ t. c.0 ++ (codes ":" ++ t)) (sym (kind_again c.1)) in
    ((parts.0, fresh_again c.1 (All-head (λ d. IsDomain d.1) c cs p), inr text), columns_written cs parts.1 (All-tail (λ d. IsDomain d.1) c cs p))

header_back : (cs : List Column) → IsSchema cs → header_of (map attribute_text cs) ≡ Ok (holding [] cs)
header_back cs ok =
    let long : length (map attribute_text cs) ≡ length cs = length-map cs attribute_text in
    let named = schema_holding [] cs ok.some ok.sound no_texts (λ none. refl) in
    header_read_back (map attribute_text cs) (holding [] cs) (record {
      some = subst (λ n. 0 < n) (sym long) ok.some;
      few = subst (λ n. n ≤ 8) (sym long) ok.sound.few;
      fields_are = columns_written cs ok.sound.names ok.sound.domains;
      distinct = named.0.sound.distinct;
    })

-- the header is read as the columns without their texts
pub columns_back : (h : History) → IsSchema h.columns → header_in (record_data h) ≡ Some (holding [] h.columns)
columns_back h ok =
    ap (option_and_then (λ ts. result_ok (header_of ts))) (texts_back (map attribute_text h.columns))
    ∙ ap (λ r. result_ok r) (header_back h.columns ok)

-- ---- numbers

-- a number within its bounds is taken
pub within : (least most n : ℕ) → least ≤ n → n ≤ most → in_range least most n ≡ Some n
within least most n low high =
    ap (λ b. cond (b && nat_le n most) (Some n) None) (le-leb least n low)
    ∙ ap (λ b. cond b (Some n) None) (le-leb n most high)

-- the format that was written is read
pub format_back : (h : History) → format_in (holding [] h.columns) (record_data h) ≡ Some (format_of h.columns h.entries)
format_back h =
    ap (λ b. in_range (if b then 2 else 1) 3 (format_of h.columns h.entries)) (holding_of_texts [] h.columns)
    ∙ by_tests (has_delete_where h.entries) (has_texts h.columns)
  where
    by_tests : (a b : Bool) → in_range (if b then 2 else 1) 3 (if a then 3 else if b then 2 else 1) ≡ Some (if a then 3 else if b then 2 else 1)
    by_tests true true = refl
    by_tests true false = refl
    by_tests false true = refl
    by_tests false false = refl

-- ---- what is known

-- attributes that know some texts, and then further ones
knowing_held : (cs : List Column) (ts more : Texts) → knowing more (holding ts cs) ≡ holding (with_texts ts more) cs
knowing_held cs ts more = by_test (has_texts cs) refl
  where
    by_test : (b : Bool) → has_texts cs ≡ b → knowing more (holding ts cs) ≡ holding (with_texts ts more) cs
    by_test true some =
        ap (λ us. holding (with_texts us more) (holding ts cs)) (texts_of_holding ts cs (λ none. absurd (true≢false (sym some ∙ none))))
        ∙ holding_again ts (with_texts ts more) cs
    by_test false none =
        let few = numbers_held ts cs none in
        ap (knowing more) few ∙ none_known cs more none ∙ sym (numbers_held (with_texts ts more) cs none)

-- columns over some texts learn those of a line behind them
pub learned_held : (cs : List Column) (ts : Texts) (text : List ℕ) → learned (holding ts cs) text ≡ holding (with_texts ts (texts_in_line text)) cs
learned_held cs ts text = by_test (has_texts cs) refl
  where
    by_test : (b : Bool) → has_texts cs ≡ b → learned (holding ts cs) text ≡ holding (with_texts ts (texts_in_line text)) cs
    by_test true some =
        ap (λ b. if b then knowing (texts_in_line text) (holding ts cs) else holding ts cs) (holding_of_texts ts cs ∙ some)
        ∙ knowing_held cs ts (texts_in_line text)
    by_test false none =
        ap (λ b. if b then knowing (texts_in_line text) (holding ts cs) else holding ts cs) (holding_of_texts ts cs ∙ none)
        ∙ numbers_held ts cs none ∙ sym (numbers_held (with_texts ts (texts_in_line text)) cs none)

-- ---- rows

number_back : (k : Domain) (z : ℤ) → IsWord z → of_kind k z ≡ Some z → number_in k (number (of_integer z)) ≡ Some z
number_back k (pos n) w is = ap (λ b. option_and_then (of_kind k) (cond b (Some (pos n)) None)) (lt-ltb n (2 ^ 63) w) ∙ is
number_back k (negsuc n) w is = is

flag_back : (z : ℤ) → (z ≡ pos 0) ⊎ (z ≡ pos 1) → number_in kind.Flag (number (of_integer z)) ≡ Some z
flag_back z (inl none) = rw none refl
flag_back z (inr one) = rw one refl

-- the text of a cell of texts
pub text_there : (texts : Texts) (z : ℤ) → IsSome (text_at texts z) → (code : ℕ) × (t : List ℕ) × (z ≡ pos code) × (text_of texts code ≡ Some t)
text_there texts (negsuc n) h = absurd (false≢true h)
text_there texts (pos code) h = by_text (text_of texts code) refl h
  where
    by_text : (o : Option (List ℕ)) → text_of texts code ≡ o → IsSome o → (c : ℕ) × (t : List ℕ) × (pos code ≡ pos c) × (text_of texts c ≡ Some t)
    by_text None e k = absurd (false≢true k)
    by_text (Some t) e k = (code, t, refl, e)

-- a code's text is read as it was shown
pub text_shown : (texts : Texts) (code : ℕ) (t : List ℕ) → AreTexts texts → text_of texts code ≡ Some t → text_in (string (unwrap_or (text_of texts code) [])) ≡ Some t
text_shown texts code t sound e =
    ap (λ o. text_in (string (unwrap_or o []))) e
    ∙ ap (λ b. if b then Some t else None) (text_sound texts code t sound e)

code_back : (all ts pre post rest known : Texts) (z : ℤ) → AreTexts all → with_texts (with_texts ts known) rest ≡ all → known ≡ pre ++ cons_option (text_in (cell_data (kind.Text all) z)) post → IsSome (text_at all z)
    → cell_in (kind.Text (with_texts ts known)) (cell_data (kind.Text all) z) ≡ Some z
code_back all ts pre post rest known z sound h parts some =
    let (code, t, same, there) = text_there all z some in
    let us = with_texts ts known in
    let seen : text_in (cell_data (kind.Text all) z) ≡ Some t = ap (λ y. text_in (cell_data (kind.Text all) y)) same ∙ text_shown all code t sound there in
    let split : known ≡ pre ++ t ∷ post = parts ∙ ap (λ o. pre ++ cons_option o post) seen in
    let later : code_of (with_texts (with_texts ts (pre ++ t ∷ post)) rest) t ≡ Some code = ap (λ k. code_of (with_texts (with_texts ts k) rest) t) (sym split) ∙ ap (λ vs. code_of vs t) h ∙ code_there all code t sound.distinct there in
    let coded : code_of us t ≡ Some code = ap (λ k. code_of (with_texts ts k) t) split ∙ coded_in ts pre post rest t code later in
    ap (option_and_then (λ x. option_map pos (code_of us x))) seen
    ∙ ap (option_map pos) coded
    ∙ ap (λ y. Some y) (sym same)

cell_back : (all ts pre post rest known : Texts) (k : Domain) (z : ℤ) → AreTexts all → (is_of_texts k ≡ true → with_texts (with_texts ts known) rest ≡ all) → known ≡ pre ++ cons_option (text_in (cell_data k z)) post → IsOver all k → IsCellOf k z
    → cell_in (over (with_texts ts known) k) (cell_data k z) ≡ Some z
cell_back all ts pre post rest known kind.Int z sound h parts o c = number_back kind.Int z c refl
cell_back all ts pre post rest known (kind.Fix places) z sound h parts o c = number_back (kind.Fix places) z c refl
cell_back all ts pre post rest known kind.Flag z sound h parts o c = flag_back z c
cell_back all ts pre post rest known (kind.Text own) z sound h parts o c =
    let parted : known ≡ pre ++ cons_option (text_in (cell_data (kind.Text all) z)) post = subst (λ vs. known ≡ pre ++ cons_option (text_in (cell_data (kind.Text vs) z)) post) o parts in
    let some : IsSome (text_at all z) = subst (λ vs. IsSome (text_at vs z)) o c in
    subst (λ vs. cell_in (kind.Text (with_texts ts known)) (cell_data (kind.Text vs) z) ≡ Some z) (sym o) (code_back all ts pre post rest known z sound (h refl) parted some)

-- of two, the second holds
pub or_right : (a b : Bool) → b ≡ true → (a || b) ≡ true
or_right true b h = refl
or_right false b h = h

or_left : (a b : Bool) → a ≡ true → (a || b) ≡ true
or_left true b h = refl
or_left false b h = absurd (false≢true h)

-- domains over all texts
abbrev pub AreOver : Texts → List Domain → Type 0
AreOver all ks = AllByRecursion (IsOver all) ks

cells_again : (all ts pre rest known : Texts) (done : List ℤ) (ks : List Domain) (zs : List ℤ) → AreTexts all → (list_any is_of_texts ks ≡ true → with_texts (with_texts ts known) rest ≡ all) → known ≡ pre ++ filter_map text_in (cells_data ks zs) → AreOver all ks → AreCells ks zs
    → cells_after done (under (with_texts ts known) ks) (cells_data ks zs) ≡ Some (done ++ zs)
cells_again all ts pre rest known done [] [] sound h parts o c = ap (λ l. Some l) (sym (append-nil done))
cells_again all ts pre rest known done [] (z ∷ zs) sound h parts o c = absurd c
cells_again all ts pre rest known done (k ∷ ks) [] sound h parts o c = absurd c
cells_again all ts pre rest known done (k ∷ ks) (z ∷ zs) sound h parts o c =
    let us = with_texts ts known in
    let seen = text_in (cell_data k z) in
    let post = filter_map text_in (cells_data ks zs) in
    let further : known ≡ (pre ++ cons_option seen []) ++ post = parts ∙ ap (λ l. pre ++ l) (one_more seen post) ∙ sym (append_assoc pre (cons_option seen []) post) in
    ap (option_and_then (λ y. cells_after (done ++ y ∷ []) (under us ks) (cells_data ks zs))) (cell_back all ts pre post rest known k z sound (λ e. h (or_left (is_of_texts k) (list_any is_of_texts ks) e)) parts o.0 c.0)
    ∙ cells_again all ts (pre ++ cons_option seen []) rest known (done ++ z ∷ []) ks zs sound (λ e. h (or_right (is_of_texts k) (list_any is_of_texts ks) e)) further o.1 c.1
    ∙ ap (λ l. Some l) (append_assoc done (z ∷ []) zs)

same_length : (n m : ℕ) → n ≡ m → nat_eq n m ≡ true
same_length n m h = grind (arith, nat_tests, h)

cells_long : (ks : List Domain) (zs : List ℤ) → AreCells ks zs → length (cells_data ks zs) ≡ length ks
cells_long [] [] h = refl
cells_long [] (z ∷ zs) h = absurd h
cells_long (k ∷ ks) [] h = absurd h
cells_long (k ∷ ks) (z ∷ zs) h = ap suc (cells_long ks zs h.1)

-- cells past the last kind are not shown
pub shown : (ks : List Domain) (zs ys : List ℤ) → AreCells ks zs → cells_data ks (zs ++ ys) ≡ cells_data ks zs
shown [] [] ys h = refl
shown [] (z ∷ zs) ys h = absurd h
shown (k ∷ ks) [] ys h = absurd h
shown (k ∷ ks) (z ∷ zs) ys h = ap (λ l. cell_data k z ∷ l) (shown ks zs ys h.1)

-- domains over one list of texts are over it all
pub overs : (all : Texts) (cs : List Column) → All (λ c. IsOver all c.1) cs → AreOver all (kinds_of cs)
overs all [] h = tt
overs all (c ∷ cs) h = (All-head (λ d. IsOver all d.1) c cs h, overs all cs (All-tail (λ d. IsOver all d.1) c cs h))

-- the texts of rows, as a file has them
abbrev pub shown_texts : List Column → List Row → Texts
shown_texts cs rs = flat_map (λ r. row_texts (row_data (kinds_of cs) r)) rs

row_back : (cs : List Column) (ts rest : Texts) (r : Row) → IsSchema cs → (has_texts cs ≡ true → with_texts (with_texts ts (row_texts (row_data (kinds_of cs) r))) rest ≡ texts_of cs) → HasCells (kinds_of cs) r
    → row_in (kinds_of (holding (with_texts ts (row_texts (row_data (kinds_of cs) r))) cs)) (row_data (kinds_of cs) r) ≡ Some r.cells
row_back cs ts rest r ok h (zs, c, is) =
    let ks = kinds_of cs in
    let known = row_texts (row_data ks r) in
    let us = with_texts ts known in
    let seen : cells_data ks r.cells ≡ cells_data ks zs = ap (cells_data ks) is ∙ shown ks zs (replicate (8 - length zs) (pos 0)) c in
    let parts : known ≡ filter_map text_in (cells_data ks zs) = ap (filter_map text_in) (list_items (cells_data ks r.cells) ∙ seen) in
    let long : length (cells_data ks zs) ≡ length (under us ks) = cells_long ks zs c ∙ sym (length-map ks (over us)) in
    let all_known : list_any is_of_texts ks ≡ true → with_texts us rest ≡ texts_of cs = λ e. h (sym (kinds_of_texts cs) ∙ e) in
    ap (λ l. row_in l (row_data ks r)) (holding_kinds us cs)
    ∙ ap (λ l. row_in (under us ks) (list_data l)) seen
    ∙ ap (cells_of (under us ks)) (list_items (cells_data ks zs))
    ∙ ap (λ b. cond b (option_map padded (cells_after [] (under us ks) (cells_data ks zs))) None) (same_length (length (cells_data ks zs)) (length (under us ks)) long)
    ∙ ap (option_map padded) (cells_again (texts_of cs) ts [] rest known [] ks zs (texts_known cs ok.sound.domains) all_known parts (overs (texts_of cs) cs ok.shared) c)
    ∙ ap (λ l. Some l) (sym is)

-- rows that were written are read with the same codes
pub rows_again : (cs : List Column) (ts rest : Texts) (next : ℕ) (done rs : List Row) → IsSchema cs → (has_texts cs ≡ true → with_texts (with_texts ts (shown_texts cs rs)) rest ≡ texts_of cs) → next ≡ length done + 1 → is_numbered next rs ≡ true → All (HasCells (kinds_of cs)) rs
    → rows_after (holding ts cs) done (map (row_data (kinds_of cs)) rs) ≡ Some (holding (with_texts ts (shown_texts cs rs)) cs, done ++ rs)
rows_again cs ts rest next done [] ok h here n a = ap (λ l. Some (holding ts cs, l)) (sym (append-nil done))
rows_again cs ts rest next done (r ∷ rs) ok h here n a =
    let ks = kinds_of cs in
    let d = row_data ks r in
    let one = row_texts d in
    let us = with_texts ts one in
    let left = shown_texts cs rs in
    let ds = map (row_data ks) rs in
    let split : with_texts ts (one ++ left) ≡ with_texts us left = with_more ts one left in
    let then_known : has_texts cs ≡ true → with_texts (with_texts us left) rest ≡ texts_of cs = λ some. ap (λ vs. with_texts vs rest) (sym split) ∙ h some in
    let now_known : has_texts cs ≡ true → with_texts us (left ++ rest) ≡ texts_of cs = λ some. with_more us left rest ∙ then_known some in
    let parts = and_parts (r.key == next) (is_numbered (next + 1) rs) n in
    let key : length done + 1 ≡ r.key = sym here ∙ sym (eqb-true r.key next parts.0) in
    let more : next + 1 ≡ length (done ++ r ∷ []) + 1 = omega (arith, here, length-append done (r ∷ [])) in
    ap (λ vs. option_and_then (λ cells. rows_after vs (with_row done cells) ds) (row_in (kinds_of vs) d)) (knowing_held cs ts one)
    ∙ ap (option_and_then (λ cells. rows_after (holding us cs) (done ++ row_of (length done + 1) cells ∷ []) ds)) (row_back cs ts (left ++ rest) r ok now_known (All-head (HasCells ks) r rs a))
    ∙ ap (λ k. rows_after (holding us cs) (done ++ row_of k r.cells ∷ []) ds) key
    ∙ rows_again cs us rest (next + 1) (done ++ r ∷ []) rs ok then_known more parts.1 (All-tail (HasCells ks) r rs a)
    ∙ ap (λ vs. Some (holding vs cs, (done ++ r ∷ []) ++ rs)) (sym split)
    ∙ ap (λ l. Some (holding (with_texts ts (one ++ left)) cs, l)) (append_assoc done (r ∷ []) rs)

-- the texts of the calls, as a file has them
abbrev pub called_texts : List Column → List Entry → Texts
called_texts cs es = flat_map (λ e. texts_in_line (call_text cs e.call)) es

-- the attributes that know the texts of the rows
abbrev after_rows : History → List Column
after_rows h = holding (with_texts [] (shown_texts h.columns h.rows)) h.columns

all_known : (h : History) → KnowsInOrder h → has_texts h.columns ≡ true → with_texts (with_texts [] (shown_texts h.columns h.rows)) (called_texts h.columns h.entries) ≡ texts_of h.columns
all_known h o some = sym (with_more [] (shown_texts h.columns h.rows) (called_texts h.columns h.entries)) ∙ sym (o some)

rows_back : (h : History) → IsOfRun h → KnowsInOrder h → rows_in (holding [] h.columns) h.limit (record_data h) ≡ Some (after_rows h, h.rows)
rows_back h r o =
    let named = holding [] h.columns in
    let ks = kinds_of h.columns in
    let ds = map (row_data ks) h.rows in
    let few : nat_le (length ds) h.limit ≡ true = le-leb (length ds) h.limit (subst (λ n. n ≤ h.limit) (sym (length-map h.rows (row_data ks))) r.sound.few) in
    ap (rows_up_to named h.limit) (list_items ds)
    ∙ ap (λ b. cond b (rows_after named [] ds) None) few
    ∙ rows_again h.columns [] (called_texts h.columns h.entries) 1 [] h.rows r.schema (all_known h o) refl r.sound.numbered r.cells

-- ---- calls that may stand

-- each entry is of a session below the number
abbrev pub all_stand_under : ℕ → List Entry → Bool
all_stand_under format es = list_all (λ e. may_stand format e.call) es

stand_under_3 : (es : List Entry) → all_stand_under 3 es ≡ true
stand_under_3 [] = refl
stand_under_3 (e ∷ es) = both (may_stand 3 e.call) (all_stand_under 3 es) (or_right (not (is_delete_where e.call)) true refl) (stand_under_3 es)

neither : (a b : Bool) → (a || b) ≡ false → (a ≡ false) × (b ≡ false)
neither true b h = absurd (true≢false h)
neither false b h = (refl, h)

stand_without : (format : ℕ) (es : List Entry) → has_delete_where es ≡ false → all_stand_under format es ≡ true
stand_without format [] h = refl
stand_without format (e ∷ es) h =
    let parts = neither (is_delete_where e.call) (has_delete_where es) h in
    both (may_stand format e.call) (all_stand_under format es) (ap (λ b. not b || format == 3) parts.0) (stand_without format es parts.1)

-- calls may stand in a file of the format in which they are written
pub all_stand : (cs : List Column) (es : List Entry) → all_stand_under (format_of cs es) es ≡ true
all_stand cs es = by_test (has_delete_where es) refl
  where
    by_test : (b : Bool) → has_delete_where es ≡ b → all_stand_under (if b then 3 else least_format cs) es ≡ true
    by_test true some = stand_under_3 es
    by_test false none = stand_without (least_format cs) es none

-- ---- entries

-- a line that is a call is printed as a line that is it
pub line_back : (columns : List Column) (text : List ℕ) (c : Call) → IsSchema columns → IsLine columns text (Some c) → IsLine columns (call_text columns c) (Some c)
line_back columns text c ok (short, not_comment, is) =
    (call_short columns (tokens text) c ok is, no_comment columns c, call_back columns (tokens text) c ok is)

state_back : (columns : List Column) (c : Call) (st : State) → IsStateOf c st → state_of c (state_data columns c st) ≡ Some (in_lines columns c st)
state_back columns c (state.Answered r) h = ap (option_map (λ ls. state.Lines ls)) (texts_back (reply_lines columns c r))
state_back columns c (state.Lines ls) h = ap (option_map (λ ls. state.Lines ls)) (texts_back ls)
state_back columns c state.Open h = rw h refl
state_back columns c state.Void h = rw h refl

-- the line of a call, where its texts are known and perhaps not yet those of later calls
pub line_known : (cs : List Column) (ts rest : Texts) (text : List ℕ) (c : Call) → IsSchema cs → (has_texts cs ≡ true → with_texts (with_texts ts (texts_in_line text)) rest ≡ texts_of cs) → IsLine cs text (Some c) → IsLine (learned (holding ts cs) text) text (Some c)
line_known cs ts rest text c ok h is = subst (λ vs. IsLine vs text (Some c)) (sym (learned_held cs ts text)) (by_test (has_texts cs) refl)
  where
    by_test : (b : Bool) → has_texts cs ≡ b → IsLine (holding (with_texts ts (texts_in_line text)) cs) text (Some c)
    by_test true some = line_narrowed ts rest cs text c ok.shared (h some) is
    by_test false none = subst (λ vs. IsLine vs text (Some c)) (sym (numbers_held (with_texts ts (texts_in_line text)) cs none)) is

entry_back : (format : ℕ) (cs : List Column) (ts rest : Texts) (e : Entry) → may_stand format e.call ≡ true → IsSchema cs → (has_texts cs ≡ true → with_texts (with_texts ts (texts_in_line (call_text cs e.call))) rest ≡ texts_of cs) → IsCalled cs e → IsReadEntry format (holding ts cs) (entry_data cs e) (entry_in_lines cs e)
entry_back format cs ts rest e stands ok h i = record {
  members = refl;
  text = call_text cs e.call;
  text_is = refl;
  call = line_known cs ts rest (call_text cs e.call) e.call ok h (line_back cs i.line e.call ok i.call);
  stands = stands;
  session = within 1 MOST_SESSIONS e.session (omega (arith, i.first)) i.last;
  state = state_back cs e.call e.state i.state;
}

-- columns whose texts are all known are those over them
pub last_known : (cs : List Column) (ts : Texts) → IsSchema cs → (has_texts cs ≡ true → ts ≡ texts_of cs) → cs ≡ holding ts cs
last_known cs ts ok h = by_test (has_texts cs) refl
  where
    by_test : (b : Bool) → has_texts cs ≡ b → cs ≡ holding ts cs
    by_test true some = sym (ap (λ vs. holding vs cs) (h some) ∙ nothing_more cs ok)
    by_test false none = sym (numbers_held ts cs none)

entries_back : (format : ℕ) (cs : List Column) (ts : Texts) (es : List Entry) → all_stand_under format es ≡ true → IsSchema cs → (has_texts cs ≡ true → with_texts ts (called_texts cs es) ≡ texts_of cs) → All (IsCalled cs) es → AreReadEntries format (holding ts cs) (map (entry_data cs) es) cs (map (entry_in_lines cs) es)
entries_back format cs ts [] stand ok h a = last_known cs ts ok h
entries_back format cs ts (e ∷ es) stand ok h a =
    let text = call_text cs e.call in
    let one = texts_in_line text in
    let us = with_texts ts one in
    let left = called_texts cs es in
    let then_known : has_texts cs ≡ true → with_texts us left ≡ texts_of cs = λ some. sym (with_more ts one left) ∙ h some in
    let stands = and_parts (may_stand format e.call) (all_stand_under format es) stand in
    let rest = entries_back format cs us es stands.1 ok then_known (All-tail (IsCalled cs) e es a) in (
      entry_back format cs ts left e stands.0 ok then_known (All-head (IsCalled cs) e es a),
      subst (λ vs. AreReadEntries format vs (map (entry_data cs) es) cs (map (entry_in_lines cs) es)) (sym (learned_held cs ts text)) rest,
    )

-- ---- words

sessions_words : (columns : List Column) (es : List Entry) → All (IsCalled columns) es → All (λ e. e.session < 2 ^ 64) es
sessions_words columns [] h = All-nil (λ e. e.session < 2 ^ 64)
sessions_words columns (e ∷ es) h =
    let i = All-head (IsCalled columns) e es h in
    let small : e.session < 2 ^ 64 = omega (arith, i.last) in
    All-cons (λ e. e.session < 2 ^ 64) e es small (sessions_words columns es (All-tail (IsCalled columns) e es h))

code_word : (texts : Texts) (z : ℤ) → AreTexts texts → IsSome (text_at texts z) → IsWord z
code_word texts z s h =
    let (code, t, same, there) = text_there texts z h in
    let at = coded_at texts code t there in
    let inside : at.0 < length texts = slice_get_within texts at.0 t at.2 in
    subst IsWord (sym same) (omega (arith, at.1, inside, s.few))

cell_word : (k : Domain) (z : ℤ) → IsDomain k → IsCellOf k z → IsWord z
cell_word kind.Int z s h = h
cell_word (kind.Fix places) z s h = h
cell_word kind.Flag z s (inl none) = rw none (omega arith)
cell_word kind.Flag z s (inr one) = rw one (omega arith)
cell_word (kind.Text texts) z s h = code_word texts z s h

cells_words : (ks : List Domain) (zs : List ℤ) → AreSound ks → AreCells ks zs → All IsWord zs
cells_words [] [] s h = All-nil IsWord
cells_words [] (z ∷ zs) s h = absurd h
cells_words (k ∷ ks) [] s h = absurd h
cells_words (k ∷ ks) (z ∷ zs) s h = All-cons IsWord z zs (cell_word k z s.0 h.0) (cells_words ks zs s.1 h.1)

row_words : (ks : List Domain) (r : Row) → AreSound ks → HasCells ks r → All IsWord r.cells
row_words ks r s (zs, h, is) =
    let none : IsWord (pos 0) = omega arith in
    All-same IsWord r.cells (padded zs) is (All-append IsWord zs (replicate (8 - length zs) (pos 0)) (cells_words ks zs s h) (All-replicate IsWord (8 - length zs) (pos 0) none))

rows_words : (ks : List Domain) (rs : List Row) → AreSound ks → All (HasCells ks) rs → All (λ r. All IsWord r.cells) rs
rows_words ks [] s h = All-nil (λ r. All IsWord r.cells)
rows_words ks (r ∷ rs) s h =
    All-cons (λ r. All IsWord r.cells) r rs (row_words ks r s (All-head (HasCells ks) r rs h)) (rows_words ks rs s (All-tail (HasCells ks) r rs h))

-- the record of a run has texts alone that can be written
pub has_words : (h : History) → IsOfRun h → HasWords h
has_words h r = record {
  limit = let most = r.sound.most in omega (arith, most);
  sessions = sessions_words h.columns h.entries r.calls;
  cells = rows_words (kinds_of h.columns) h.rows (kinds_sound h.columns r.schema) r.cells;
}

-- ---- the record

written : (h : History) → IsOfRun h → KnowsInOrder h → IsReadRecord (record_text h) (with_lines h)
written h r o = record {
  utf8 = record_utf8 h r;
  value = record_data h;
  json = record_read h (has_words h r);
  members = refl;
  named = holding [] h.columns;
  header = columns_back h r.schema;
  format = format_of h.columns h.entries;
  format_is = format_back h;
  limit = within 1 MOST_ROWS h.limit (let some = r.sound.some in omega (arith, some)) r.sound.most;
  known = after_rows h;
  rows = rows_back h r o;
  items = map (entry_data h.columns) h.entries;
  items_are = ap (λ l. Some l) (list_items (map (entry_data h.columns) h.entries));
  few = subst (λ n. n ≤ MOST_ENTRIES) (sym (length-map h.entries (entry_data h.columns))) r.sound.short;
  entries = entries_back (format_of h.columns h.entries) h.columns (with_texts [] (shown_texts h.columns h.rows)) h.entries (all_stand h.columns h.entries) r.schema (all_known h o) r.calls;
}

-- the law of `records_are_read_back`
pub records_read_back : RecordsAreReadBack
records_read_back h r o = record_only (record_text h) (with_lines h) (written h r o)
