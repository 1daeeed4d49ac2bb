-- The comma-separated values of a call tell its reply.
use Rattle.std.proofs.Common.{◌≡◌, ◌∙◌, ap, sym, refl, subst, ℕ, ◌^◌, ◌<◌, ◌==◌, inl, inr, ℤ, pos, Bool, true, false, cond, List, [], ◌∷◌, ◌++◌, map, codes, decimal, Option, Some, None, FitsSigned, nat_lt, arith}
use Rattle.std.specs.Int.{w128}
use Rattle.std.specs.List.{All, AllByRecursion}
use Rattle.std.specs.Prelude.{if◌then◌else◌, option_and_then, option_map}
use Rattle.std.proofs.lemmas.List.Elements.{recursion_from_All}
use Rattle.sw_rows.specs.Cells.{cell_value, magnitude}
use Rattle.sw_rows.specs.Domains.{Domain, IsDomain}
use Rattle.sw_rows.specs.Domains as kind
use Rattle.sw_rows.specs.Header.{Column}
use Rattle.sw_query.specs.Replies.{reply_row}
use Rattle.sw_rows.specs.Texts.{code_of, is_text}
use Rattle.sw_query.specs.declared.query.Cond.{Cond}
use Rattle.sw_query.specs.declared.query.Call.{Call}
use Rattle.sw_query.specs.declared.query.Call.TheVariants as call
use Rattle.sw_query.specs.declared.query.Want.{Want}
use Rattle.sw_query.specs.declared.query.Want.TheVariants as want
use Rattle.sw_query.specs.declared.reply.Reply.{Reply}
use Rattle.sw_query.specs.declared.reply.Reply.TheVariants as reply
use Rattle.sw_query.specs.declared.reply.ReplyRow.{ReplyRow}
use Rattle.sw_lang.specs.PrintedCalls.{name_at}
use Rattle.sw_lang.specs.Replies.{kind_at, sum_text}
use Rattle.sw_outputs.specs.CsvReading.{ValuesAreReadBack, answer_read, cells_read, optional_read, records_in, row_read, rows_read, sum_read}
use Rattle.sw_outputs.specs.Fields.{answer_records, cell_field, cell_fields, extreme_field, keyed_fields, keyed_records, number_field, one_column, records_text, reply_records, scalar_records}
use Rattle.sw_outputs.specs.JsonLines.{attrs_shown, called_word, kind_called, text_shown, wanted_word}
use Rattle.sw_outputs.specs.JsonReading.{AnswersCall, AnswersOrNot, AnswersWant, AreCellsOf, IsCellOf, IsExtremeOf, IsRowOf, inserted, removed}
use Rattle.sw_outputs.proofs.JsonBack.{both_some, kind_sound, kinds_sound, small_128, text_back}
use Rattle.sw_outputs.proofs.Numbers.{count_read, fixed_read, whole_read}
use Rattle.sw_outputs.proofs.RecordsBack.{HaveFields, Records, records_back, records_behind}
use Rattle.sw_outputs.proofs.TableBack.{has_its_text, plain_read}
use denote.Ref.{Bor}

-- ---- cells and rows

text_read : (texts : List (List ℕ)) (z : ℤ) → IsDomain (kind.Text texts) → IsCellOf (kind.Text texts) z → cell_value (kind.Text texts) (text_shown texts z) ≡ Some z
text_read texts z d c =
    let t = has_its_text texts z d c in
    let sound : is_text (text_shown texts z) ≡ true = ap is_text t.shown ∙ t.sound in
    ap (λ b. cond b (option_map pos (code_of texts (text_shown texts z))) None) sound ∙ text_back texts z d c

cell_read : (k : Domain) (z : ℤ) → IsDomain k → IsCellOf k z → cell_value k (cell_field k z) ≡ Some z
cell_read kind.Int z d c = plain_read kind.Int z refl d c
cell_read (kind.Fix places) z d c = plain_read (kind.Fix places) z refl d c
cell_read kind.Flag z d c = plain_read kind.Flag z refl d c
cell_read (kind.Text texts) z d c = text_read texts z d c

cells_back : (ks : List Domain) (zs : List ℤ) → AllByRecursion IsDomain ks → AreCellsOf ks zs → cells_read ks (cell_fields ks zs) ≡ Some zs
cells_back [] [] d c = refl
cells_back [] (z ∷ zs) d c = absurd c
cells_back (k ∷ ks) [] d c = absurd c
cells_back (k ∷ ks) (z ∷ zs) d c =
    both_some (λ y ys. y ∷ ys) (cell_value k (cell_field k z)) (cells_read ks (cell_fields ks zs)) z zs (cell_read k z d.0 c.0) (cells_back ks zs d.1 c.1)

key_read : (n : ℕ) → n < 2 ^ 64 → magnitude 0 (decimal n) ≡ Some n
key_read n h = count_read n (omega arith)

row_back : (ks : List Domain) (r : ReplyRow) → AllByRecursion IsDomain ks → IsRowOf ks r → row_read ks (keyed_fields ks r) ≡ Some r
row_back ks r d c =
    both_some reply_row (magnitude 0 (decimal r.key)) (cells_read ks (cell_fields ks r.cells)) r.key r.cells (key_read r.key c.0) (cells_back ks r.cells d c.1)

rows_back : (ks : List Domain) (rs : List ReplyRow) → AllByRecursion IsDomain ks → AllByRecursion (IsRowOf ks) rs → rows_read ks (map (keyed_fields ks) rs) ≡ Some rs
rows_back ks [] d c = refl
rows_back ks (r ∷ rs) d c =
    both_some (λ q qs. q ∷ qs) (row_read ks (keyed_fields ks r)) (rows_read ks (map (keyed_fields ks) rs)) r rs (row_back ks r d c.0) (rows_back ks rs d c.1)

-- ---- replies

sum_back : (k : Domain) (z : ℤ) → IsDomain k → FitsSigned w128 z → sum_read k (sum_text k z) ≡ Some z
sum_back kind.Int z d f = (whole_read z (small_128 z f)).value
sum_back (kind.Fix places) z d f = (fixed_read places z d.0 d.1 (small_128 z f)).value
sum_back kind.Flag z d f = (whole_read z (small_128 z f)).value
sum_back (kind.Text texts) z d f = (whole_read z (small_128 z f)).value

-- the records under the header of a least or a greatest
abbrev number_records : Option (List ℕ) → Records
number_records None = []
number_records (Some number) = (number ∷ []) ∷ []

extreme_back : (k : Domain) (o : Option ℤ) → IsDomain k → IsExtremeOf k o → optional_read (cell_value k) (number_records (extreme_field k o)) ≡ Some o
extreme_back k None d c = refl
extreme_back k (Some z) d c = ap (option_map (λ a. Some a)) (cell_read k z d c)

-- a reply of a call is read
abbrev IsReplyBack : List Column → Call → Reply → Type 0
IsReplyBack columns c r = answer_read columns c (reply_records columns c r) ≡ Some (Some r)

-- a least or a greatest, where there is one and where there is none
least_back : (columns : List Column) (conds : List Cond) (x : ℕ) (o : Option ℤ) → IsDomain (kind_at columns x) → IsExtremeOf (kind_at columns x) o
    → IsReplyBack columns (call.Select (record { conds = conds; want = want.Min x })) (reply.Least o)
least_back columns conds x None d c = refl
least_back columns conds x (Some z) d c = ap (λ o. option_map (λ r. Some r) (option_map (λ p. reply.Least p) o)) (extreme_back (kind_at columns x) (Some z) d c)

greatest_back : (columns : List Column) (conds : List Cond) (x : ℕ) (o : Option ℤ) → IsDomain (kind_at columns x) → IsExtremeOf (kind_at columns x) o
    → IsReplyBack columns (call.Select (record { conds = conds; want = want.Max x })) (reply.Least o)
greatest_back columns conds x None d c = refl
greatest_back columns conds x (Some z) d c = ap (λ o. option_map (λ r. Some r) (option_map (λ p. reply.Least p) o)) (extreme_back (kind_at columns x) (Some z) d c)

all_rows : (columns : List Column) (conds : List Cond) (names : List ℕ) (rows : List ReplyRow) → AllByRecursion (λ c. IsDomain c.1) columns
    → All (IsRowOf (map (kind_at columns) names)) rows → IsReplyBack columns (call.Select (record { conds = conds; want = want.Rows names })) (reply.Rows rows)
all_rows columns conds names rows d h =
    let ks = map (kind_at columns) names in
    ap (λ o. option_map (λ r. Some r) (option_map (λ rs. reply.Rows rs) o)) (rows_back ks rows (kinds_sound columns names d) (recursion_from_All (IsRowOf ks) rows h))

wanted_back : (columns : List Column) (conds : List Cond) (w : Want) (r : Reply) → AllByRecursion (λ c. IsDomain c.1) columns → AnswersWant columns w r
    → IsReplyBack columns (call.Select (record { conds = conds; want = w })) r
wanted_back columns conds (want.Rows names) r d a = subst (IsReplyBack columns (call.Select (record { conds = conds; want = want.Rows names }))) (sym a.1) (all_rows columns conds names a.0 d a.2)
wanted_back columns conds want.Count r d a =
    subst (IsReplyBack columns (call.Select (record { conds = conds; want = want.Count }))) (sym a.1)
    (ap (λ o. option_map (λ r. Some r) (option_map (λ n. reply.Count n) o)) (key_read a.0 a.2))
wanted_back columns conds (want.Sum x) r d a =
    subst (IsReplyBack columns (call.Select (record { conds = conds; want = want.Sum x }))) (sym a.1)
    (ap (λ o. option_map (λ r. Some r) (option_map (λ z. reply.Sum z) o)) (sum_back (kind_at columns x) a.0 (kind_sound columns x d) a.2))
wanted_back columns conds (want.Min x) r d a =
    subst (IsReplyBack columns (call.Select (record { conds = conds; want = want.Min x }))) (sym a.1) (least_back columns conds x a.0 (kind_sound columns x d) a.2)
wanted_back columns conds (want.Max x) r d a =
    subst (IsReplyBack columns (call.Select (record { conds = conds; want = want.Max x }))) (sym a.1) (greatest_back columns conds x a.0 (kind_sound columns x d) a.2)

called_back : (columns : List Column) (c : Call) (r : Reply) → AllByRecursion (λ c. IsDomain c.1) columns → AnswersCall columns c r → IsReplyBack columns c r
called_back columns (call.Select q) r d a = wanted_back columns q.conds q.want r d a
called_back columns (call.Insert cells) r d (inl a) =
    subst (IsReplyBack columns (call.Insert cells)) (sym a.1)
    (ap (λ o. option_map (λ r. Some r) (option_map inserted (option_map (λ n. Some n) o))) (key_read a.0 a.2))
called_back columns (call.Insert cells) r d (inr a) = subst (IsReplyBack columns (call.Insert cells)) (sym a) refl
called_back columns (call.Delete key) r d (inl a) =
    subst (IsReplyBack columns (call.Delete key)) (sym a) (ap (λ o. option_map (λ r. Some r) (option_and_then removed o)) (key_read 1 (omega arith)))
called_back columns (call.Delete key) r d (inr a) =
    subst (IsReplyBack columns (call.Delete key)) (sym a) (ap (λ o. option_map (λ r. Some r) (option_and_then removed o)) (key_read 0 (omega arith)))
called_back columns (call.DeleteWhere conds) r d a =
    subst (IsReplyBack columns (call.DeleteWhere conds)) (sym a.1)
    (ap (λ o. option_map (λ r. Some r) (option_map (λ n. reply.RemovedMany n) o)) (key_read a.0 a.2))

answer_back : (columns : List Column) (c : Call) (o : Option (Bor Reply)) → AllByRecursion (λ c. IsDomain c.1) columns → AnswersOrNot columns c o
    → answer_read columns c (answer_records columns c o) ≡ Some (option_map (λ r. r.now) o)
answer_back columns c None d a = refl
answer_back columns c (Some r) d a = called_back columns c r.now d a

-- ---- the records of a text

-- a header whose first field begins with another byte than a byte order mark, and records with fields under it
record IsHeaded (rs : Records) : Type 0 where
  first : ℕ
  field : List ℕ
  fields : List (List ℕ)
  under : Records
  whole : rs ≡ ((first ∷ field) ∷ fields) ∷ under
  plain : (first == 239) ≡ false
  have : HaveFields under

-- a word of another first byte
record IsWord (word : List ℕ) : Type 0 where
  first : ℕ
  more : List ℕ
  whole : word ≡ first ∷ more
  plain : (first == 239) ≡ false

wanted_is_word : (w : Want) → IsWord (wanted_word w)
wanted_is_word (want.Rows names) = record { first = 114; more = codes "ows"; whole = refl; plain = refl }
wanted_is_word want.Count = record { first = 99; more = codes "ount"; whole = refl; plain = refl }
wanted_is_word (want.Sum a) = record { first = 115; more = codes "um"; whole = refl; plain = refl }
wanted_is_word (want.Min a) = record { first = 109; more = codes "in"; whole = refl; plain = refl }
wanted_is_word (want.Max a) = record { first = 109; more = codes "ax"; whole = refl; plain = refl }

called_is_word : (c : Call) → IsWord (called_word c)
called_is_word (call.Select q) = wanted_is_word q.want
called_is_word (call.Insert cells) = record { first = 107; more = codes "ey"; whole = refl; plain = refl }
called_is_word (call.Delete key) = record { first = 114; more = codes "emoved"; whole = refl; plain = refl }
called_is_word (call.DeleteWhere conds) = record { first = 114; more = codes "emoved"; whole = refl; plain = refl }

number_headed : (word : List ℕ) (o : Option (List ℕ)) → IsWord word → IsHeaded (scalar_records word o)
number_headed word None w = record {
  first = w.first;
  field = w.more;
  fields = [];
  under = [];
  whole = ap (λ t. (t ∷ []) ∷ []) w.whole;
  plain = w.plain;
  have = tt;
}
number_headed word (Some number) w = record {
  first = w.first;
  field = w.more;
  fields = [];
  under = (number ∷ []) ∷ [];
  whole = ap (λ t. (t ∷ []) ∷ (number ∷ []) ∷ []) w.whole;
  plain = w.plain;
  have = (omega arith, tt);
}

keyed_have : (ks : List Domain) (rows : List ReplyRow) → HaveFields (map (keyed_fields ks) rows)
keyed_have ks [] = tt
keyed_have ks (r ∷ rows) = (omega arith, keyed_have ks rows)

rows_headed : (columns : List Column) (attrs : List ℕ) (rows : List ReplyRow) → IsHeaded (keyed_records columns attrs rows)
rows_headed columns attrs rows = record {
  first = 107;
  field = codes "ey";
  fields = map (name_at columns) attrs;
  under = map (keyed_fields (map (kind_at columns) attrs)) rows;
  whole = refl;
  plain = refl;
  have = keyed_have (map (kind_at columns) attrs) rows;
}

column_headed : (columns : List Column) (c : Call) (r : Reply) → IsHeaded (one_column columns c r)
column_headed columns c r = number_headed (called_word c) (number_field (kind_called columns c) r) (called_is_word c)

reply_headed : (columns : List Column) (c : Call) (r : Reply) → IsHeaded (reply_records columns c r)
reply_headed columns c (reply.Rows rows) = rows_headed columns (attrs_shown c) rows
reply_headed columns c (reply.Count n) = column_headed columns c (reply.Count n)
reply_headed columns c (reply.Sum z) = column_headed columns c (reply.Sum z)
reply_headed columns c (reply.Least o) = column_headed columns c (reply.Least o)
reply_headed columns c (reply.Inserted key) = column_headed columns c (reply.Inserted key)
reply_headed columns c reply.Full = column_headed columns c reply.Full
reply_headed columns c reply.Removed = column_headed columns c reply.Removed
reply_headed columns c reply.NoSuchKey = column_headed columns c reply.NoSuchKey
reply_headed columns c (reply.RemovedMany n) = column_headed columns c (reply.RemovedMany n)

answer_headed : (columns : List Column) (c : Call) (o : Option (Bor Reply)) → IsHeaded (answer_records columns c o)
answer_headed columns c None =
    number_headed (codes "refused") (Some (codes "1")) (record { first = 114; more = codes "efused"; whole = refl; plain = refl })
answer_headed columns c (Some r) = reply_headed columns c r.now

-- records, behind an empty line or not, are read as they are
split : (later : Bool) (rs : Records) → IsHeaded rs → records_in ((if later then codes "\n" else []) ++ records_text rs) ≡ rs
split true rs h =
    subst (λ (xs : Records). records_in (10 ∷ records_text xs) ≡ xs) (sym h.whole) (records_behind (((h.first ∷ h.field) ∷ h.fields) ∷ h.under) (omega arith, h.have))
split false rs h =
    subst (λ (xs : Records). records_in (records_text xs) ≡ xs) (sym h.whole) (records_back h.first h.field h.fields h.under h.plain h.have)

-- a call's comma-separated values are read as the records of its answer, which tell its reply
pub values_read_back : ValuesAreReadBack
values_read_back columns t h =
    let d = recursion_from_All (λ (c : Column). IsDomain c.1) columns h.schema.sound.domains in
    let all = split (nat_lt 1 t.number) (answer_records columns t.call.now t.reply) (answer_headed columns t.call.now t.reply) in
    (all, ap (answer_read columns t.call.now) all ∙ answer_back columns t.call.now t.reply d h.reply)
