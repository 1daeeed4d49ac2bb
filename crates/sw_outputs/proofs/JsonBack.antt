-- The line of JSON of a call tells its reply.
use Rattle.std.proofs.Common.{◌≡◌, ◌∙◌, ap, sym, refl, subst, ℕ, zero, suc, ◌^◌, ◌<◌, ◌≤◌, ◌⊎◌, inl, inr, ℤ, pos, negsuc, List, [], ◌∷◌, map, decimal, Option, Some, None, FitsSigned, w64, arith}
use Rattle.std.specs.Int.{w128}
use Rattle.std.specs.List.{All, AllByRecursion}
use Rattle.std.specs.Ordering.{int_eq}
use Rattle.std.specs.Prelude.{option_and_then, option_map, unwrap_or}
use Rattle.std.proofs.lemmas.List.Elements.{recursion_from_All}
use Rattle.json.specs.Json.{Json, number, Items}
use Rattle.json.specs.Tree.{HasNumbers, ItemsHaveNumbers, depth, items_depth}
use Rattle.sw_rows.proofs.Schemas.TextLaws.{code_there}
use Rattle.sw_rows.specs.Domains.{Domain, IsDomain}
use Rattle.sw_rows.specs.Domains as kind
use Rattle.sw_rows.specs.Header.{Column}
use Rattle.sw_query.specs.Replies.{reply_row}
use Rattle.sw_rows.specs.Texts.{code_of, text_at}
use Rattle.sw_query.specs.declared.query.Cond.{Cond}
use Rattle.sw_query.specs.declared.query.Call.{Call}
use Rattle.sw_query.specs.declared.query.Call.TheVariants as call
use Rattle.sw_query.specs.declared.query.Want.{Want}
use Rattle.sw_query.specs.declared.query.Want.TheVariants as want
use Rattle.sw_query.specs.declared.reply.Reply.{Reply}
use Rattle.sw_query.specs.declared.reply.Reply.TheVariants as reply
use Rattle.sw_query.specs.declared.reply.ReplyRow.{ReplyRow}
use Rattle.sw_lang.specs.Replies.{kind_at, sum_text}
use Rattle.sw_outputs.specs.JsonLines.{answer_json, cell_json, cells_json, count_json, extreme_json, line_json, name_json, one_json, reply_json, row_json, text_shown, told_json, told_text}
use Rattle.sw_outputs.specs.JsonReading.{AnswersCall, AnswersOrNot, AnswersWant, AreCellsOf, IsCellOf, IsExtremeOf, IsLineNumber, IsRowOf, LinesAreReadBack, answer_in, cell_in, cells_in, count_in, flag_kept, inserted, optional, removed, row_in, rows_in, sum_in}
use Rattle.sw_outputs.specs.Texts.{items_of}
use Rattle.sw_outputs.proofs.Numbers.{IsSmall, count_number, count_read, fixed_read, whole_read}
use Rattle.sw_outputs.proofs.ValueTexts.{value_read}
use denote.Ref.{Bor}

-- ---- what reading a part gives

-- a value has numbers, nests so deep, and is read as x
record IsBack {A : Type 0} (f : Json → Option A) (deep : ℕ) (j : Json) (x : A) : Type 0 where
  numbers : HasNumbers j
  shallow : depth j ≤ deep
  value : f j ≡ Some x

small_64 : (z : ℤ) → FitsSigned w64 z → IsSmall z
small_64 (pos n) f = omega (arith, f.sfits)
small_64 (negsuc n) f = omega (arith, f.sfits)

-- a number of 128 signed bits has no more than 64 digits
pub small_128 : (z : ℤ) → FitsSigned w128 z → IsSmall z
small_128 (pos n) f = omega (arith, f.sfits)
small_128 (negsuc n) f = omega (arith, f.sfits)

count_back : (n : ℕ) → n < 2 ^ 64 → IsBack count_in 0 (count_json n) n
count_back n h = record { numbers = count_number n (omega arith); shallow = omega arith; value = count_read n (omega arith) }

-- ---- cells

flag_back : (z : ℤ) → (z ≡ pos 0) ⊎ (z ≡ pos 1) → flag_kept (int_eq z (pos 1)) ≡ z
flag_back z (inl is) = ap (λ y. flag_kept (int_eq y (pos 1))) is ∙ sym is
flag_back z (inr is) = ap (λ y. flag_kept (int_eq y (pos 1))) is ∙ sym is

-- the code of the text that is shown of a cell of texts is that cell
pub text_back : (texts : List (List ℕ)) (z : ℤ) → IsDomain (kind.Text texts) → IsCellOf (kind.Text texts) z → option_map (λ code. pos code) (code_of texts (text_shown texts z)) ≡ Some z
text_back texts z d c =
    let code : ℕ = c.0.0 in
    let is : z ≡ pos code = c.0.1 in
    let text : List ℕ = c.0.2 in
    let shown : text_shown texts z ≡ text = ap (λ o. unwrap_or o []) (ap (text_at texts) is ∙ c.0.3) in
    ap (λ t. option_map (λ n. pos n) (code_of texts t)) shown ∙ ap (option_map (λ n. pos n)) (code_there texts code text d.distinct c.0.3) ∙ ap Some (sym is)

cell_back : (k : Domain) (z : ℤ) → IsDomain k → IsCellOf k z → IsBack (cell_in k) 0 (cell_json k z) z
cell_back kind.Int z d c = let r = whole_read z (small_64 z c.1) in record { numbers = r.number; shallow = omega arith; value = r.value }
cell_back (kind.Fix places) z d c = let r = fixed_read places z d.0 d.1 (small_64 z c.1) in record { numbers = r.number; shallow = omega arith; value = r.value }
cell_back kind.Flag z d c = record { numbers = tt; shallow = omega arith; value = ap Some (flag_back z c.0) }
cell_back (kind.Text texts) z d c = record { numbers = tt; shallow = omega arith; value = text_back texts z d c }

-- items have numbers, nest so deep, and are read as x
record AreBack {A : Type 0} (f : Items → Option A) (deep : ℕ) (js : Items) (x : A) : Type 0 where
  numbers : ItemsHaveNumbers js
  shallow : items_depth js ≤ deep
  value : f js ≡ Some x

-- two that are there make one
pub both_some : {A B C : Type 0} (g : A → B → C) (o : Option A) (p : Option B) (x : A) (y : B) → o ≡ Some x → p ≡ Some y → option_and_then (λ a. option_map (g a) p) o ≡ Some (g x y)
both_some g o p x y h k = rw (h, k) refl

cells_back : (ks : List Domain) (zs : List ℤ) → AllByRecursion IsDomain ks → AreCellsOf ks zs → AreBack (cells_in ks) 0 (items_of (cells_json ks zs)) zs
cells_back [] [] d c = record { numbers = tt; shallow = omega arith; value = refl }
cells_back [] (z ∷ zs) d c = absurd c
cells_back (k ∷ ks) [] d c = absurd c
cells_back (k ∷ ks) (z ∷ zs) d c =
    let one = cell_back k z d.0 c.0 in
    let rest = cells_back ks zs d.1 c.1 in
    record {
      numbers = (one.numbers, rest.numbers);
      shallow = omega (arith, one.shallow, rest.shallow);
      value = both_some (λ y ys. y ∷ ys) (cell_in k (cell_json k z)) (cells_in ks (items_of (cells_json ks zs))) z zs one.value rest.value;
    }

-- ---- rows

row_back : (ks : List Domain) (r : ReplyRow) → AllByRecursion IsDomain ks → IsRowOf ks r → IsBack (row_in ks) 1 (row_json ks r) r
row_back ks r d c =
    let key = count_back r.key c.0 in
    let cells = cells_back ks r.cells d c.1 in
    record {
      numbers = (key.numbers, cells.numbers);
      shallow = omega (arith, key.shallow, cells.shallow);
      value = both_some reply_row (count_in (count_json r.key)) (cells_in ks (items_of (cells_json ks r.cells))) r.key r.cells key.value cells.value;
    }

rows_back : (ks : List Domain) (rs : List ReplyRow) → AllByRecursion IsDomain ks → AllByRecursion (IsRowOf ks) rs → AreBack (rows_in ks) 1 (items_of (map (row_json ks) rs)) rs
rows_back ks [] d c = record { numbers = tt; shallow = omega arith; value = refl }
rows_back ks (r ∷ rs) d c =
    let one = row_back ks r d c.0 in
    let rest = rows_back ks rs d c.1 in
    record {
      numbers = (one.numbers, rest.numbers);
      shallow = omega (arith, one.shallow, rest.shallow);
      value = both_some (λ q qs. q ∷ qs) (row_in ks (row_json ks r)) (rows_in ks (items_of (map (row_json ks) rs))) r rs one.value rest.value;
    }

-- names are texts
names_plain : (columns : List Column) (attrs : List ℕ) → ItemsHaveNumbers (items_of (map (name_json columns) attrs)) × (items_depth (items_of (map (name_json columns) attrs)) ≤ 0)
names_plain columns [] = (tt, omega arith)
names_plain columns (a ∷ attrs) = let rest = names_plain columns attrs in ((tt, rest.0), omega (arith, rest.1))

-- ---- domains

-- where each column's domain is sound, that of any attribute is
pub kind_sound : (columns : List Column) (a : ℕ) → AllByRecursion (λ c. IsDomain c.1) columns → IsDomain (kind_at columns a)
kind_sound [] a h = tt
kind_sound (c ∷ cs) zero h = h.0
kind_sound (c ∷ cs) (suc a) h = kind_sound cs a h.1

-- so are those of a list of attributes
pub kinds_sound : (columns : List Column) (attrs : List ℕ) → AllByRecursion (λ c. IsDomain c.1) columns → AllByRecursion IsDomain (map (kind_at columns) attrs)
kinds_sound columns [] h = tt
kinds_sound columns (a ∷ attrs) h = (kind_sound columns a h, kinds_sound columns attrs h)

-- ---- replies

-- a value in an object of one member
one_back : {A : Type 0} (f : Json → Option A) (name : List ℕ) (j : Json) (x : A) → IsBack f 1 j x → HasNumbers (one_json name j) × (depth (one_json name j) ≤ 3)
one_back f name j x b = ((b.numbers, tt), omega (arith, b.shallow))

sum_back : (k : Domain) (z : ℤ) → IsDomain k → FitsSigned w128 z → IsBack (sum_in k) 1 (number (sum_text k z)) z
sum_back kind.Int z d f = let r = whole_read z (small_128 z f) in record { numbers = r.number; shallow = omega arith; value = r.value }
sum_back (kind.Fix places) z d f = let r = fixed_read places z d.0 d.1 (small_128 z f) in record { numbers = r.number; shallow = omega arith; value = r.value }
sum_back kind.Flag z d f = let r = whole_read z (small_128 z f) in record { numbers = r.number; shallow = omega arith; value = r.value }
sum_back (kind.Text texts) z d f = let r = whole_read z (small_128 z f) in record { numbers = r.number; shallow = omega arith; value = r.value }

-- a value is not `null`
some_back : {A : Type 0} (f : Json → Option A) (s : List ℕ) (x : A) → f (number s) ≡ Some x → optional f (number s) ≡ Some (Some x)
some_back f s x h = ap (option_map (λ a. Some a)) h

cell_there : (k : Domain) (z : ℤ) → cell_in k (cell_json k z) ≡ Some z → optional (cell_in k) (cell_json k z) ≡ Some (Some z)
cell_there kind.Int z h = ap (option_map (λ a. Some a)) h
cell_there (kind.Fix places) z h = ap (option_map (λ a. Some a)) h
cell_there kind.Flag z h = ap (option_map (λ a. Some a)) h
cell_there (kind.Text texts) z h = ap (option_map (λ a. Some a)) h

extreme_back : (k : Domain) (o : Option ℤ) → IsDomain k → IsExtremeOf k o → IsBack (optional (cell_in k)) 1 (extreme_json k o) o
extreme_back k None d c = record { numbers = tt; shallow = omega arith; value = refl }
extreme_back k (Some z) d c =
    let b = cell_back k z d c in
    record { numbers = b.numbers; shallow = omega (arith, b.shallow); value = cell_there k z b.value }

line_back : (o : Option ℕ) → IsLineNumber o → IsBack (optional count_in) 0 (line_json o) o
line_back None h = record { numbers = tt; shallow = omega arith; value = refl }
line_back (Some n) h =
    let b = count_back n h in
    record { numbers = b.numbers; shallow = b.shallow; value = ap (option_map (λ a. Some a)) b.value }

count_one : (n : ℕ) → n < 2 ^ 64 → IsBack count_in 1 (count_json n) n
count_one n h = let b = count_back n h in record { numbers = b.numbers; shallow = omega arith; value = b.value }

-- a reply of a call, in an object
abbrev IsReplyBack : List Column → Call → Reply → Type 0
IsReplyBack columns c r = IsBack (answer_in columns c) 3 (reply_json columns c r) (Some r)

all_rows : (columns : List Column) (conds : List Cond) (names : List ℕ) (rows : List ReplyRow) → AllByRecursion (λ c. IsDomain c.1) columns
    → All (IsRowOf (map (kind_at columns) names)) rows → IsReplyBack columns (call.Select (record { conds = conds; want = want.Rows names })) (reply.Rows rows)
all_rows columns conds names rows d h =
    let ks = map (kind_at columns) names in
    let back = rows_back ks rows (kinds_sound columns names d) (recursion_from_All (IsRowOf ks) rows h) in
    let named = names_plain columns names in
    record {
      numbers = ((tt, named.0), (back.numbers, tt));
      shallow = omega (arith, named.1, back.shallow);
      value = ap (λ o. option_map (λ r. Some r) (option_map (λ rs. reply.Rows rs) o)) back.value;
    }

wanted_back : (columns : List Column) (conds : List Cond) (w : Want) (r : Reply) → AllByRecursion (λ c. IsDomain c.1) columns → AnswersWant columns w r
    → IsReplyBack columns (call.Select (record { conds = conds; want = w })) r
wanted_back columns conds (want.Rows names) r d a = subst (IsReplyBack columns (call.Select (record { conds = conds; want = want.Rows names }))) (sym a.1) (all_rows columns conds names a.0 d a.2)
wanted_back columns conds want.Count r d a =
    let b = count_one a.0 a.2 in
    subst (IsReplyBack columns (call.Select (record { conds = conds; want = want.Count }))) (sym a.1) (record {
      numbers = (b.numbers, tt);
      shallow = omega (arith, b.shallow);
      value = ap (λ o. option_map (λ r. Some r) (option_map (λ n. reply.Count n) o)) b.value;
    })
wanted_back columns conds (want.Sum x) r d a =
    let b = sum_back (kind_at columns x) a.0 (kind_sound columns x d) a.2 in
    subst (IsReplyBack columns (call.Select (record { conds = conds; want = want.Sum x }))) (sym a.1) (record {
      numbers = (b.numbers, tt);
      shallow = omega (arith, b.shallow);
      value = ap (λ o. option_map (λ r. Some r) (option_map (λ z. reply.Sum z) o)) b.value;
    })
wanted_back columns conds (want.Min x) r d a =
    let b = extreme_back (kind_at columns x) a.0 (kind_sound columns x d) a.2 in
    subst (IsReplyBack columns (call.Select (record { conds = conds; want = want.Min x }))) (sym a.1) (record {
      numbers = (b.numbers, tt);
      shallow = omega (arith, b.shallow);
      value = ap (λ o. option_map (λ r. Some r) (option_map (λ z. reply.Least z) o)) b.value;
    })
wanted_back columns conds (want.Max x) r d a =
    let b = extreme_back (kind_at columns x) a.0 (kind_sound columns x d) a.2 in
    subst (IsReplyBack columns (call.Select (record { conds = conds; want = want.Max x }))) (sym a.1) (record {
      numbers = (b.numbers, tt);
      shallow = omega (arith, b.shallow);
      value = ap (λ o. option_map (λ r. Some r) (option_map (λ z. reply.Least z) o)) b.value;
    })

called_back : (columns : List Column) (c : Call) (r : Reply) → AllByRecursion (λ c. IsDomain c.1) columns → AnswersCall columns c r → IsReplyBack columns c r
called_back columns (call.Select q) r d a = wanted_back columns q.conds q.want r d a
called_back columns (call.Insert cells) r d (inl a) =
    let b = count_one a.0 a.2 in
    subst (IsReplyBack columns (call.Insert cells)) (sym a.1) (record {
      numbers = (b.numbers, tt);
      shallow = omega (arith, b.shallow);
      value = ap (λ o. option_map (λ r. Some r) (option_map inserted o)) (some_back count_in (decimal a.0) a.0 b.value);
    })
called_back columns (call.Insert cells) r d (inr a) =
    subst (IsReplyBack columns (call.Insert cells)) (sym a) (record { numbers = (tt, tt); shallow = omega arith; value = refl })
called_back columns (call.Delete key) r d (inl a) =
    let b = count_one 1 (omega arith) in
    subst (IsReplyBack columns (call.Delete key)) (sym a) (record {
      numbers = (b.numbers, tt);
      shallow = omega (arith, b.shallow);
      value = ap (λ o. option_map (λ r. Some r) (option_and_then removed o)) b.value;
    })
called_back columns (call.Delete key) r d (inr a) =
    let b = count_one 0 (omega arith) in
    subst (IsReplyBack columns (call.Delete key)) (sym a) (record {
      numbers = (b.numbers, tt);
      shallow = omega (arith, b.shallow);
      value = ap (λ o. option_map (λ r. Some r) (option_and_then removed o)) b.value;
    })
called_back columns (call.DeleteWhere conds) r d a =
    let b = count_one a.0 a.2 in
    subst (IsReplyBack columns (call.DeleteWhere conds)) (sym a.1) (record {
      numbers = (b.numbers, tt);
      shallow = omega (arith, b.shallow);
      value = ap (λ o. option_map (λ r. Some r) (option_map (λ n. reply.RemovedMany n) o)) b.value;
    })

answer_back : (columns : List Column) (c : Call) (o : Option (Bor Reply)) → AllByRecursion (λ c. IsDomain c.1) columns → AnswersOrNot columns c o
    → IsBack (answer_in columns c) 3 (answer_json columns c o) (option_map (λ r. r.now) o)
answer_back columns c None d a =
    let b = count_one 1 (omega arith) in
    record { numbers = (b.numbers, tt); shallow = omega (arith, b.shallow); value = refl }
answer_back columns c (Some r) d a = called_back columns c r.now d a

-- ---- lines

-- a call's line is read as JSON that tells where the call stands, its text and its reply
pub lines_read_back : LinesAreReadBack
unfolding told_text
lines_read_back columns t h =
    let d = recursion_from_All (λ (c : Column). IsDomain c.1) columns h.schema.sound.domains in
    let number = count_back t.number h.number in
    let block = count_back t.block h.block in
    let line = line_back t.line h.line in
    let answer = answer_back columns t.call.now t.reply d h.reply in (
      told_json columns t,
      value_read (told_json columns t) (number.numbers, (block.numbers, (line.numbers, (tt, (answer.numbers, tt))))) (omega (arith, number.shallow, block.shallow, line.shallow, answer.shallow)),
      record {
        number = number.value;
        block = block.value;
        line = line.value;
        call = refl;
        reply = answer.value;
      },
    )
