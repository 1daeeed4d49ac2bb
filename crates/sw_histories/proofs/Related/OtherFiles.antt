-- The file of a run's record is read as a record whose texts have the codes that reading gives them.
use Rattle.std.proofs.Common.{◌≡◌, ◌∙◌, ap, ap₂, sym, refl, subst, ℕ, ℤ, pos, suc, ◌+◌, ◌-◌, ◌≤◌, ◌==◌, ◌&&◌, ◌||◌, Bool, true, false, not, true≢false, if◌then◌else◌, cond, All, List, [], ◌∷◌, ◌++◌, length, map, replicate, arith, Some, None, Ok, IsSome, is_some, le-leb, nat_le}
use Rattle.std.specs.Prelude.{filter_map, option_map, unwrap_or}
use Rattle.std.specs.List.{list_all}
use Rattle.std.proofs.lemmas.Bool.{and_parts}
use Rattle.std.proofs.lemmas.List.{length-map}
use Rattle.std.proofs.lemmas.List.Elements.{All-cons, All-head, All-nil, All-tail}
use Rattle.std.proofs.lemmas.List.Folds.{list_all-append}
use Rattle.serde_json.specs.Data.{Data, string}
use Rattle.sw_table.specs.declared.row.Row.{Row}
use Rattle.sw_rows.specs.Domains.{Domain, IsOver, over}
use Rattle.sw_rows.specs.Domains as kind
use Rattle.sw_rows.specs.Header.{Column, IsSchema, has_texts, holding, kinds_of, texts_of}
use Rattle.sw_rows.specs.Tables.{padded, row_of}
use Rattle.sw_rows.specs.Texts.{AreTexts, has_text, is_text, text_at, text_of, with_texts}
use Rattle.sw_query.specs.declared.query.Call.{Call}
use Rattle.sw_query.specs.declared.query.Call.TheVariants.{Select, Insert, Delete, DeleteWhere}
use Rattle.sw_rows.specs.declared.table.TheConstants.{MOST_ROWS}
use Rattle.sw_rows.proofs.Schemas.ColumnLemmas.{no_texts}
use Rattle.sw_rows.proofs.Schemas.DomainLaws.{holding_again, schema_holding}
use Rattle.sw_rows.proofs.Schemas.TextLaws.{code_only, code_there, text_sound, with_more}
use Rattle.sw_rows.proofs.Schemas.TextLemmas.{texts_sound}
use Rattle.sw_lang.proofs.Known.Knowing.{line_sound, texts_known}
use Rattle.sw_lang.specs.Grammar.{IsLine}
use Rattle.sw_lang.specs.Learning.{quoted_text, quoted_texts, texts_in_line}
use Rattle.sw_lang.specs.PrintedCalls.{call_text}
use Rattle.sw_lang.specs.Replies.{reply_lines}
use Rattle.sw_lang.specs.Tokens.{Tok, comma, op, quoted, stray, tokens, word}
use Rattle.sw_spine.specs.History.{History, IsLegal, entry, is_select}
use Rattle.sw_spine.specs.Table.{is_numbered, opened, row}
use Rattle.sw_spine.specs.declared.history.Entry.{Entry}
use Rattle.sw_spine.specs.declared.history.State.{State}
use Rattle.sw_spine.specs.declared.history.State.TheVariants as state
use Rattle.sw_spine.specs.declared.spine.TheConstants.{MOST_ENTRIES, MOST_SESSIONS}
use Rattle.sw_spine.proofs.StoreLemmas.{inserts_opened, rows_of_opened}
use Rattle.sw_histories.specs.ReadBack.{AreCells, HasCells, IsCalled, IsCellOf, IsOfRun, IsStateOf, in_lines}
use Rattle.sw_histories.specs.RecordReading.{may_stand, record_at, row_texts, rows_after, rows_in, rows_up_to, state_of, text_in}
use Rattle.sw_histories.proofs.Found.ReadParts.{AreReadEntries, IsReadEntry, IsReadRecord}
use Rattle.sw_histories.specs.RecordText.{cell_data, cells_data, entry_data, format_of, is_delete_where, list_data, record_data, record_text, row_data, state_data}
use Rattle.sw_histories.proofs.Found.NarrowedLines.{texts_are}
use Rattle.sw_histories.proofs.Related.OtherCalls.{AreKnownToks, IsKnownTok, Pairs, call_same, padded_same}
use Rattle.sw_histories.proofs.Related.OtherCodes.{SameCell, SameRow, SameRows, Texts, as_many}
use Rattle.sw_histories.proofs.Related.OtherHistories.{Apart, SameCall, SameEntries, SameUpdates, all_agree_still, select_same}
use Rattle.sw_lang.proofs.Known.Given.{AreIn, HaveCodes, all_given, codes_append, has_from_code}
use Rattle.sw_histories.proofs.Related.OtherTexts.{call_in}
use Rattle.sw_histories.proofs.Back.RecordBack.{record_read}
use Rattle.sw_histories.proofs.Back.RecordLaws.{record_only}
use Rattle.sw_histories.proofs.Found.RecordReadingLemmas.{list_items}
use Rattle.sw_histories.proofs.Back.RecordTexts.{record_utf8}
use Rattle.sw_histories.proofs.Back.RunRecords.{AreOver, all_stand, all_stand_under, called_texts, columns_back, format_back, has_words, last_known, learned_held, line_back, line_known, overs, rows_again, shown, shown_texts, text_shown, text_there, texts_back, within}

-- ---- the texts of rows

-- what a test says of the texts of cells, where it holds of each text
cells-all : (p : List ℕ → Bool) (ts : Texts) (ks : List Domain) (zs : List ℤ) → AreTexts ts → AreOver ts ks → AreCells ks zs → ((t : List ℕ) (code : ℕ) → text_of ts code ≡ Some t → p t ≡ true) → list_all p (filter_map text_in (cells_data ks zs)) ≡ true
cells-all p ts [] zs sound o c h = refl
cells-all p ts (k ∷ ks) [] sound o c h = refl
cells-all p ts (kind.Int ∷ ks) (z ∷ zs) sound o c h = cells-all p ts ks zs sound o.1 c.1 h
cells-all p ts (kind.Fix places ∷ ks) (z ∷ zs) sound o c h = cells-all p ts ks zs sound o.1 c.1 h
cells-all p ts (kind.Flag ∷ ks) (z ∷ zs) sound o c h = cells-all p ts ks zs sound o.1 c.1 h
cells-all p ts (kind.Text own ∷ ks) (z ∷ zs) sound o c h =
    let (code, t, same, there) = text_there ts z (subst (λ vs. IsSome (text_at vs z)) o.0 c.0) in
    let seen : text_in (cell_data (kind.Text own) z) ≡ Some t = ap (λ vs. text_in (cell_data (kind.Text vs) z)) o.0 ∙ ap (λ y. text_in (cell_data (kind.Text ts) y)) same ∙ text_shown ts code t sound there in
    rw (seen, h t code there) (cells-all p ts ks zs sound o.1 c.1 h)

row-all : (p : List ℕ → Bool) (ts : Texts) (ks : List Domain) (r : Row) → AreTexts ts → AreOver ts ks → HasCells ks r → ((t : List ℕ) (code : ℕ) → text_of ts code ≡ Some t → p t ≡ true) → list_all p (row_texts (row_data ks r)) ≡ true
row-all p ts ks r sound o (zs, c, is) h =
    ap (λ ds. list_all p (filter_map text_in ds)) (list_items (cells_data ks r.cells) ∙ ap (cells_data ks) is ∙ shown ks zs (replicate (8 - length zs) (pos 0)) c)
    ∙ cells-all p ts ks zs sound o c h

rows-all : (p : List ℕ → Bool) (ts : Texts) (cs : List Column) (rs : List Row) → AreTexts ts → AreOver ts (kinds_of cs) → All (HasCells (kinds_of cs)) rs → ((t : List ℕ) (code : ℕ) → text_of ts code ≡ Some t → p t ≡ true) → list_all p (shown_texts cs rs) ≡ true
rows-all p ts cs [] sound o a h = refl
rows-all p ts cs (r ∷ rs) sound o a h =
    list_all-append p (row_texts (row_data (kinds_of cs) r)) (shown_texts cs rs)
    ∙ ap (λ b. b && list_all p (shown_texts cs rs)) (row-all p ts (kinds_of cs) r sound o (All-head (HasCells (kinds_of cs)) r rs a) h)
    ∙ rows-all p ts cs rs sound o (All-tail (HasCells (kinds_of cs)) r rs a) h

-- ---- the texts of calls

line-of : (cs : List Column) (e : Entry) → IsSchema cs → IsCalled cs e → IsLine cs (call_text cs e.call) (Some e.call)
line-of cs e ok i = line_back cs i.line e.call ok i.call

line-in : (ts : Texts) (cs : List Column) (e : Entry) → All (λ x. IsOver ts x.1) cs → IsSchema cs → IsCalled cs e → AreIn ts (texts_in_line (call_text cs e.call))
line-in ts cs e o ok i =
    let (few, plain, is) = line-of cs e ok i in
    ap (list_all (has_text ts)) (texts_are (call_text cs e.call) few plain) ∙ call_in ts cs (tokens (call_text cs e.call)) e.call o is

calls-in : (ts : Texts) (cs : List Column) (es : List Entry) → All (λ x. IsOver ts x.1) cs → IsSchema cs → All (IsCalled cs) es → AreIn ts (called_texts cs es)
calls-in ts cs [] o ok a = refl
calls-in ts cs (e ∷ es) o ok a =
    list_all-append (has_text ts) (texts_in_line (call_text cs e.call)) (called_texts cs es)
    ∙ ap (λ b. b && list_all (has_text ts) (called_texts cs es)) (line-in ts cs e o ok (All-head (IsCalled cs) e es a))
    ∙ calls-in ts cs es o ok (All-tail (IsCalled cs) e es a)

calls-sound : (cs : List Column) (es : List Entry) → list_all is_text (called_texts cs es) ≡ true
calls-sound cs [] = refl
calls-sound cs (e ∷ es) =
    list_all-append is_text (texts_in_line (call_text cs e.call)) (called_texts cs es)
    ∙ ap (λ b. b && list_all is_text (called_texts cs es)) (line_sound (call_text cs e.call))
    ∙ calls-sound cs es

-- ---- rows over the codes that reading gives

abbrev OtherCells : Texts → Texts → List Column → List ℤ → Type 0
OtherCells ts us cs zs = (ys : List ℤ) × AreCells (kinds_of (holding us cs)) ys × Pairs ts us cs zs ys × (cells_data (kinds_of (holding us cs)) ys ≡ cells_data (kinds_of cs) zs)

cells-other : (ts us : Texts) (cs : List Column) (zs : List ℤ) → AreTexts ts → All (λ x. IsOver ts x.1) cs → AreCells (kinds_of cs) zs → HaveCodes us (filter_map text_in (cells_data (kinds_of cs) zs)) → OtherCells ts us cs zs
cells-other ts us [] [] sound o c h = ([], tt, tt, refl)
cells-other ts us [] (z ∷ zs) sound o c h = absurd c
cells-other ts us (x ∷ cs) [] sound o c h = absurd c
cells-other ts us (x ∷ cs) (z ∷ zs) sound o c h = by-domain (cells-other ts us cs zs sound (All-tail (λ y. IsOver ts y.1) x cs o) c.1) x.1 (All-head (λ y. IsOver ts y.1) x cs o) c.0 h
  where
    further : OtherCells ts us cs zs → (d : Domain) (y : ℤ) → IsCellOf (over us d) y → SameCell ts us d z y → cell_data (over us d) y ≡ cell_data d z
        → (ys : List ℤ) × AreCells (over us d ∷ kinds_of (holding us cs)) ys × Pairs ts us ((x.0, d) ∷ cs) (z ∷ zs) ys × (cells_data (over us d ∷ kinds_of (holding us cs)) ys ≡ cells_data (d ∷ kinds_of cs) (z ∷ zs))
    further (ys, are, pairs, same) d y is cell written = (y ∷ ys, (is, are), (cell, pairs), ap₂ (λ (e : Data) (l : List Data). e ∷ l) written same)

    by-domain : (HaveCodes us (filter_map text_in (cells_data (kinds_of cs) zs)) → OtherCells ts us cs zs) → (d : Domain) → IsOver ts d → IsCellOf d z → HaveCodes us (filter_map text_in (cell_data d z ∷ cells_data (kinds_of cs) zs))
        → (ys : List ℤ) × AreCells (over us d ∷ kinds_of (holding us cs)) ys × Pairs ts us ((x.0, d) ∷ cs) (z ∷ zs) ys × (cells_data (over us d ∷ kinds_of (holding us cs)) ys ≡ cells_data (d ∷ kinds_of cs) (z ∷ zs))
    by-domain rest kind.Int p is k = further (rest k) kind.Int z is refl refl
    by-domain rest (kind.Fix places) p is k = further (rest k) (kind.Fix places) z is refl refl
    by-domain rest kind.Flag p is k = further (rest k) kind.Flag z is refl refl
    by-domain rest (kind.Text own) p is k =
        let (code, t, same, there) = text_there ts z (subst (λ vs. IsSome (text_at vs z)) p is) in
        let seen : text_in (cell_data (kind.Text own) z) ≡ Some t = ap (λ vs. text_in (cell_data (kind.Text vs) z)) p ∙ ap (λ y. text_in (cell_data (kind.Text ts) y)) same ∙ text_shown ts code t sound there in
        let known : HaveCodes us (t ∷ filter_map text_in (cells_data (kinds_of cs) zs)) = rw seen at k in
        let (other, has) = known.0 in
        let read : text_of us other ≡ Some t = code_only us other t has in
        let here : text_at ts z ≡ Some t = ap (text_at ts) same ∙ there in
        further (rest known.1) (kind.Text own) (pos other) (ap is_some read) (t, here, read)
        (ap (λ w. string (unwrap_or w [])) (read ∙ sym here) ∙ ap (λ vs. cell_data (kind.Text vs) z) (sym p))

abbrev OtherRow : Texts → Texts → List Column → Row → Type 0
OtherRow ts us cs r = (s : Row) × HasCells (kinds_of (holding us cs)) s × SameRow ts us cs r s × (row_data (kinds_of (holding us cs)) s ≡ row_data (kinds_of cs) r)

row-other : (ts us : Texts) (cs : List Column) (r : Row) → AreTexts ts → All (λ x. IsOver ts x.1) cs → HasCells (kinds_of cs) r → HaveCodes us (row_texts (row_data (kinds_of cs) r)) → OtherRow ts us cs r
row-other ts us cs r sound o (zs, c, is) h =
    let ks = kinds_of cs in
    let seen : cells_data ks r.cells ≡ cells_data ks zs = ap (cells_data ks) is ∙ shown ks zs (replicate (8 - length zs) (pos 0)) c in
    let known : HaveCodes us (filter_map text_in (cells_data ks zs)) = subst (λ ds. HaveCodes us (filter_map text_in ds)) (list_items (cells_data ks r.cells) ∙ seen) h in
    let (ys, are, pairs, same) = cells-other ts us cs zs sound o c known in
    let there : cells_data (kinds_of (holding us cs)) (padded ys) ≡ cells_data ks r.cells = shown (kinds_of (holding us cs)) ys (replicate (8 - length ys) (pos 0)) are ∙ same ∙ sym seen in
    (row_of r.key (padded ys), (ys, are, refl), subst (λ l. SameRow ts us cs (row_of r.key l) (row_of r.key (padded ys))) (sym is) (padded_same ts us cs zs ys r.key pairs), ap list_data there)

record OtherRows (ts us : Texts) (cs : List Column) (n : ℕ) (rs : List Row) : Type 0 where
  pub rows : List Row
  pub have : All (HasCells (kinds_of (holding us cs))) rows
  pub same : SameRows ts us cs rs rows
  pub data_same : map (row_data (kinds_of (holding us cs))) rows ≡ map (row_data (kinds_of cs)) rs
  pub texts_same : shown_texts (holding us cs) rows ≡ shown_texts cs rs
  pub numbered : is_numbered n rows ≡ is_numbered n rs

rows-other : (ts us : Texts) (cs : List Column) (n : ℕ) (rs : List Row) → AreTexts ts → All (λ x. IsOver ts x.1) cs → All (HasCells (kinds_of cs)) rs → HaveCodes us (shown_texts cs rs) → OtherRows ts us cs n rs
rows-other ts us cs n [] sound o a h = record { rows = []; have = All-nil (HasCells (kinds_of (holding us cs))); same = tt; data_same = refl; texts_same = refl; numbered = refl }
rows-other ts us cs n (r ∷ rs) sound o a h =
    let known = codes_append us (row_texts (row_data (kinds_of cs) r)) (shown_texts cs rs) h in
    let (s, has, same, written) = row-other ts us cs r sound o (All-head (HasCells (kinds_of cs)) r rs a) known.0 in
    let more = rows-other ts us cs (n + 1) rs sound o (All-tail (HasCells (kinds_of cs)) r rs a) known.1 in
    record {
      rows = s ∷ more.rows;
      have = All-cons (HasCells (kinds_of (holding us cs))) s more.rows has more.have;
      same = (same, more.same);
      data_same = ap₂ (λ (d : Data) (l : List Data). d ∷ l) written more.data_same;
      texts_same = ap₂ (λ (l : Texts) (m : Texts). l ++ m) (ap row_texts written) more.texts_same;
      numbered = ap₂ (λ (k : ℕ) (b : Bool). (k == n) && b) (sym same.key) more.numbered;
    }

-- ---- entries

known-tok : (ts us : Texts) (t : Tok) → HaveCodes us (quoted_text t) → IsKnownTok ts us t
known-tok ts us (word w) h = tt
known-tok ts us (op o) h = tt
known-tok ts us comma h = tt
known-tok ts us (quoted text) h = λ code sound has. let known : HaveCodes us (text ∷ []) = subst (λ (b : Bool). HaveCodes us (if b then text ∷ [] else [])) sound h in known.0
known-tok ts us stray h = tt

known-toks : (ts us : Texts) (toks : List Tok) → HaveCodes us (quoted_texts toks) → AreKnownToks ts us toks
known-toks ts us [] h = tt
known-toks ts us (t ∷ toks) h = let parts = codes_append us (quoted_text t) (quoted_texts toks) h in (known-tok ts us t parts.0, known-toks ts us toks parts.1)

delete-same : (ts us : Texts) (cs : List Column) (c d : Call) → SameCall ts us cs c d → is_delete_where c ≡ is_delete_where d
delete-same ts us cs (Select q) (Select p) h = refl
delete-same ts us cs (Insert zs) (Insert ys) h = refl
delete-same ts us cs (Delete key) (Delete other) h = refl
delete-same ts us cs (DeleteWhere xs) (DeleteWhere ys) h = refl
delete-same ts us cs (Select q) (Insert ys) h = absurd h
delete-same ts us cs (Select q) (Delete key) h = absurd h
delete-same ts us cs (Select q) (DeleteWhere ys) h = absurd h
delete-same ts us cs (Insert zs) (Select p) h = absurd h
delete-same ts us cs (Insert zs) (Delete key) h = absurd h
delete-same ts us cs (Insert zs) (DeleteWhere ys) h = absurd h
delete-same ts us cs (Delete key) (Select p) h = absurd h
delete-same ts us cs (Delete key) (Insert ys) h = absurd h
delete-same ts us cs (Delete key) (DeleteWhere ys) h = absurd h
delete-same ts us cs (DeleteWhere xs) (Select p) h = absurd h
delete-same ts us cs (DeleteWhere xs) (Insert ys) h = absurd h
delete-same ts us cs (DeleteWhere xs) (Delete key) h = absurd h

state-other : (cs : List Column) (c d : Call) (st : State) → is_select c ≡ is_select d → IsStateOf c st → state_of d (state_data cs c st) ≡ Some (in_lines cs c st)
state-other cs c d (state.Answered r) e h = ap (option_map (λ ls. state.Lines ls)) (texts_back (reply_lines cs c r))
state-other cs c d (state.Lines ls) e h = ap (option_map (λ ls. state.Lines ls)) (texts_back ls)
state-other cs c d state.Open e h = rw (sym e ∙ h) refl
state-other cs c d state.Void e h = rw (sym e ∙ h) refl

record OtherEntries (ts us known : Texts) (cs : List Column) (format : ℕ) (es : List Entry) : Type 0 where
  pub entries : List Entry
  pub are : AreReadEntries format (holding known (holding us cs)) (map (entry_data cs) es) (holding us cs) entries
  pub same : SameEntries ts us cs es entries
  pub long : length entries ≡ length es

entries-other : (ts us known : Texts) (cs : List Column) (format : ℕ) (es : List Entry) → All (λ x. IsOver ts x.1) cs → IsSchema cs → IsSchema (holding us cs) → with_texts known (called_texts cs es) ≡ us → texts_of (holding us cs) ≡ us → HaveCodes us (called_texts cs es) → all_stand_under format es ≡ true → All (IsCalled cs) es → OtherEntries ts us known cs format es
entries-other ts us known cs format [] o ok okay all own codes stand a =
    record { entries = []; are = last_known (holding us cs) known okay (λ some. all ∙ sym own); same = tt; long = refl }
entries-other ts us known cs format (e ∷ es) o ok okay all own codes stand a =
    let text = call_text cs e.call in
    let one = texts_in_line text in
    let left = called_texts cs es in
    let (few, plain, is) = line-of cs e ok (All-head (IsCalled cs) e es a) in
    let i = All-head (IsCalled cs) e es a in
    let parts = codes_append us one left codes in
    let stands = and_parts (may_stand format e.call) (all_stand_under format es) stand in
    let toks = known-toks ts us (tokens text) (subst (HaveCodes us) (texts_are text few plain) parts.0) in
    let (d, there, same) = call_same ts us cs (tokens text) e.call o toks is in
    let after : with_texts (with_texts known one) left ≡ us = sym (with_more known one left) ∙ all in
    let more = entries-other ts us (with_texts known one) cs format es o ok okay after own parts.1 stands.1 (All-tail (IsCalled cs) e es a) in
    let st = in_lines cs e.call e.state in
    let f : Entry = entry e.session d st in
    let here : IsReadEntry format (holding known (holding us cs)) (entry_data cs e) f = record {
      members = refl;
      text = text;
      text_is = refl;
      call = line_known (holding us cs) known left text d okay (λ some. after ∙ sym own) (few, plain, there);
      stands = ap (λ b. not b || format == 3) (sym (delete-same ts us cs e.call d same)) ∙ stands.0;
      session = within 1 MOST_SESSIONS e.session (omega (arith, i.first)) i.last;
      state = state-other cs e.call d e.state (select_same ts us cs e.call d same) i.state;
    } in
    record {
      entries = f ∷ more.entries;
      are = (here, subst (λ vs. AreReadEntries format vs (map (entry_data cs) es) (holding us cs) more.entries) (sym (learned_held (holding us cs) known text)) more.are);
      same = (same, refl, more.same);
      long = ap suc more.long;
    }

-- ---- the file

rows-read : (h : History) (us : Texts) → IsOfRun h → (other : OtherRows (texts_of h.columns) us h.columns 1 h.rows) → IsSchema (holding us h.columns) → texts_of (holding us h.columns) ≡ us → with_texts (with_texts [] (shown_texts h.columns h.rows)) (called_texts h.columns h.entries) ≡ us
    → rows_in (holding [] h.columns) h.limit (record_data h) ≡ Some (holding (with_texts [] (shown_texts h.columns h.rows)) (holding us h.columns), other.rows)
rows-read h us r other okay own split =
    let cs = h.columns in
    let ds = map (row_data (kinds_of cs)) h.rows in
    let calls = called_texts cs h.entries in
    let few : nat_le (length ds) h.limit ≡ true = le-leb (length ds) h.limit (subst (λ n. n ≤ h.limit) (sym (length-map h.rows (row_data (kinds_of cs)))) r.sound.few) in
    let known : has_texts (holding us cs) ≡ true → with_texts (with_texts [] (shown_texts (holding us cs) other.rows)) calls ≡ texts_of (holding us cs) = λ some. ap (λ l. with_texts (with_texts [] l) calls) other.texts_same ∙ split ∙ sym own in
    ap (rows_up_to (holding [] cs) h.limit) (list_items ds)
    ∙ ap (λ b. cond b (rows_after (holding [] cs) [] ds) None) few
    ∙ ap (rows_after (holding [] cs) []) (sym other.data_same)
    ∙ ap (λ vs. rows_after vs [] (map (row_data (kinds_of (holding us cs))) other.rows)) (sym (holding_again us [] cs))
    ∙ rows_again (holding us cs) [] calls 1 [] other.rows okay known refl (other.numbered ∙ r.sound.numbered) other.have
    ∙ ap (λ l. Some (holding (with_texts [] l) (holding us cs), other.rows)) other.texts_same

is-record : (h : History) (us : Texts) → IsOfRun h → (other : OtherRows (texts_of h.columns) us h.columns 1 h.rows) (es : OtherEntries (texts_of h.columns) us (with_texts [] (shown_texts h.columns h.rows)) h.columns (format_of h.columns h.entries) h.entries)
    → IsSchema (holding us h.columns) → texts_of (holding us h.columns) ≡ us → with_texts (with_texts [] (shown_texts h.columns h.rows)) (called_texts h.columns h.entries) ≡ us
    → IsReadRecord (record_text h) (record { columns = holding us h.columns; rows = other.rows; limit = h.limit; entries = es.entries })
is-record h us r other es okay own split = record {
  utf8 = record_utf8 h r;
  value = record_data h;
  json = record_read h (has_words h r);
  members = refl;
  named = holding [] h.columns;
  header = columns_back h r.schema;
  format = format_of h.columns h.entries;
  format_is = format_back h;
  limit = within 1 MOST_ROWS h.limit (let some = r.sound.some in omega (arith, some)) r.sound.most;
  known = holding (with_texts [] (shown_texts h.columns h.rows)) (holding us h.columns);
  rows = rows-read h us r other okay own split;
  items = map (entry_data h.columns) h.entries;
  items_are = ap (λ l. Some l) (list_items (map (entry_data h.columns) h.entries));
  few = subst (λ n. n ≤ MOST_ENTRIES) (sym (length-map h.entries (entry_data h.columns))) r.sound.short;
  entries = es.are;
}

-- a record, and what is read of its file: the same but for the codes of texts
pub record ReadAs (h k : History) : Type 0 where
  pub read : record_at (record_text h) ≡ Ok k
  pub legal : IsLegal h → IsLegal k
  pub long : length k.entries ≡ length h.entries

-- a run's record whose attributes are some of texts
pub read_otherwise : (h : History) → IsOfRun h → has_texts h.columns ≡ true → (k : History) × ReadAs h k
read_otherwise h r some =
    let cs = h.columns in
    let ts = texts_of cs in
    let ks = kinds_of cs in
    let rows = shown_texts cs h.rows in
    let calls = called_texts cs h.entries in
    let own = r.schema.shared in
    let sound = texts_known cs r.schema.sound.domains in
    let known-text : (t : List ℕ) (code : ℕ) → text_of ts code ≡ Some t → has_text ts t ≡ true = λ t code e. has_from_code ts t code (code_there ts code t sound.distinct e) in
    let in_ts : AreIn ts (rows ++ calls) =
    list_all-append (has_text ts) rows calls
    ∙ ap (λ b. b && list_all (has_text ts) calls) (rows-all (has_text ts) ts cs h.rows sound (overs ts cs own) r.cells known-text)
    ∙ calls-in ts cs h.entries own r.schema r.calls in
    let texts : list_all is_text (rows ++ calls) ≡ true =
    list_all-append is_text rows calls
    ∙ ap (λ b. b && list_all is_text calls) (rows-all is_text ts cs h.rows sound (overs ts cs own) r.cells (λ t code e. text_sound ts code t sound e))
    ∙ calls-sound cs h.entries in
    let us = with_texts [] (rows ++ calls) in
    let are : AreTexts us = texts_sound [] (rows ++ calls) no_texts texts in
    let codes = codes_append us rows calls (all_given ts [] (rows ++ calls) sound.few no_texts texts refl in_ts) in
    let okay = schema_holding us cs r.schema.some r.schema.sound are (λ none. absurd (true≢false (sym some ∙ none))) in
    let other = rows-other ts us cs 1 h.rows sound own r.cells codes.0 in
    let split : with_texts (with_texts [] rows) calls ≡ us = sym (with_more [] rows calls) in
    let format = format_of cs h.entries in
    let es = entries-other ts us (with_texts [] rows) cs format h.entries own r.schema okay.0 split okay.1 codes.1 (all_stand cs h.entries) r.calls in
    let k : History = record { columns = holding us cs; rows = other.rows; limit = h.limit; entries = es.entries } in
    let apart : Apart ts us cs = record { one = sound.distinct; other = are.distinct; own = own } in
    let opening : SameUpdates ts us cs (opened h.rows) (opened other.rows) = record {
      rows = rw (rows_of_opened h.rows, rows_of_opened other.rows) other.same;
      given = inserts_opened h.rows ∙ as_many ts us cs h.rows other.rows other.same ∙ sym (inserts_opened other.rows);
    } in (
      k,
      record {
        read = record_only (record_text h) k (is-record h us r other es okay.0 okay.1 split);
        legal = all_agree_still ts us cs h.limit (opened h.rows) (opened other.rows) h.entries es.entries apart opening es.same;
        long = es.long;
      },
    )
