-- A printed cell is read back, and is one token.
use Rattle.std.proofs.Common.{◌≡◌, ◌∙◌, ap, sym, refl, subst, ℕ, zero, suc, ◌+◌, ◌-◌, ◌*◌, ◌/◌, ◌%◌, ◌^◌, ◌<◌, ◌≤◌, inl, inr, ℤ, pos, negsuc, neg_ℤ, Bool, true, false, List, [], ◌∷◌, ◌++◌, length, fold, decimal, codes, Some, FitsSigned, w64, append-nil, length-append, div-le_self, arith, ◌&&◌, ◌==◌, nat_le, leb-true, true≢false, slice_get, slice_index}
use Rattle.std.proofs.lemmas.Bool.Decides.{nat_tests}
use Rattle.std.proofs.lemmas.Fmt.{length-decimal-le}
use Rattle.std.proofs.lemmas.List.Sums.{fold-append}
use Rattle.std.proofs.lemmas.Nat.{div-add-mod', mod_below}
use Rattle.std.specs.Char.{is_ascii_digit}
use Rattle.std.specs.Fmt.{signed_decimal}
use Rattle.std.specs.List.{list_all}
use Rattle.std.proofs.lemmas.Bool.{and_parts}
use Rattle.std.specs.Prelude.{unwrap_or}
use Rattle.std.specs.Str.{is_utf8}
use Rattle.sw_rows.proofs.Tables.CellSpelling.{all_like, cell_read_back, cell_spelled}
use Rattle.sw_rows.proofs.Options.{unless_some}
use Rattle.sw_rows.proofs.Schemas.TextLaws.{code_only, code_there, code_within}
use Rattle.sw_rows.proofs.Schemas.TextLemmas.{text_at as one_at}
use Rattle.sw_rows.specs.Texts.{code_of, is_text, is_text_byte, text_at, text_of}
use Rattle.sw_rows.specs.declared.schema.texts.TheConstants.{MOST_BYTES_OF_TEXT}
use Rattle.sw_rows.specs.Cells.{cell_value}
use Rattle.sw_rows.specs.Spelling.{IsSign, WritesCell, WritesNumber, fraction, number_of}
use Rattle.sw_rows.specs.Domains.{Domain, IsDomain, is_of_texts}
use Rattle.sw_rows.specs.Domains as kind
use Rattle.sw_lang.specs.Fits.{IsOfKind}
use Rattle.sw_lang.specs.Replies.{cell_text, fixed_text, padded_digits, with_point}
use Rattle.sw_lang.specs.Grammar.{IsValue}
use Rattle.sw_lang.specs.Reading.{word_value}
use Rattle.sw_lang.specs.Tokens.{Tok, word, quoted, tokens, is_word_byte}
use Rattle.sw_lang.proofs.Printed.Digits.{all_both, and_both, decimal_writes, decimals_write, more}
use Rattle.sw_lang.proofs.Printed.Quoted.{front_quoted, quoted_length}
use Rattle.sw_lang.proofs.Printed.Tokens.{IsRun, Stops, front_word}

-- a stored cell of a kind
pub record IsCell (k : Domain) (z : ℤ) : Type 0 where
  pub places : IsDomain k
  pub of_kind : IsOfKind k z
  pub fits : FitsSigned w64 z

-- ---- a magnitude as it is printed: its whole part and its decimals

pub record Spelled (places m : ℕ) (text : List ℕ) : Type 0 where
  pub whole : List ℕ
  pub decimals : List ℕ
  pub text_is : text ≡ whole ++ fraction decimals
  pub some : 0 < length whole
  pub whole_digits : list_all is_ascii_digit whole ≡ true
  pub decimal_digits : list_all is_ascii_digit decimals ≡ true
  pub count : length decimals ≡ places
  pub value : number_of (whole ++ decimals) ≡ m
  pub short : length text ≤ 30

whole_spelled : (n : ℕ) → n < 2 ^ 64 → Spelled 0 n (decimal n)
whole_spelled n h =
    let w = decimal_writes n h in
    record {
      whole = decimal n;
      decimals = [];
      text_is = sym (append-nil (decimal n));
      some = w.some;
      whole_digits = w.digits;
      decimal_digits = refl;
      count = refl;
      value = ap number_of (append-nil (decimal n)) ∙ w.after 0 ∙ omega arith;
      short = let l : length (decimal n) ≤ 20 = length-decimal-le 20 n (omega arith) (omega arith) h in omega arith;
    }

-- decimals that are there stand after a dot
some_fraction : (ds : List ℕ) → 0 < length ds → codes "." ++ ds ≡ fraction ds
some_fraction [] h = absurd (omega arith)
some_fraction (d ∷ ds) h = refl

point_spelled : (places n : ℕ) → 1 ≤ places → places ≤ 6 → 10 ^ places ≤ 1000000 → 0 < 10 ^ places → n < 2 ^ 64 → Spelled places n (with_point places n)
point_spelled places n some few small positive h =
    let part : ℕ = n / 10 ^ places in
    let rest : ℕ = n % 10 ^ places in
    let below : rest < 10 ^ places = mod_below n (10 ^ places) positive in
    let part_fits : part < 2 ^ 64 = omega (arith, div-le_self n (10 ^ places)) in
    let w = decimal_writes part part_fits in
    let d = decimals_write places rest (omega arith) below (omega arith) in
    let ds : List ℕ = padded_digits places (decimal rest) in
    let there : 0 < length ds = omega (arith, d.1) in
    record {
      whole = decimal part;
      decimals = ds;
      text_is = ap (λ t. decimal part ++ t) (some_fraction ds there);
      some = w.some;
      whole_digits = w.digits;
      decimal_digits = d.0.digits;
      count = d.1;
      value = fold-append more 0 (decimal part) ds ∙ ap (λ m. fold more m ds) (w.after 0 ∙ omega arith) ∙ d.0.after part ∙ ap (λ k. part * 10 ^ k + rest) d.1 ∙ div-add-mod' n (10 ^ places);
      short = let l : length (decimal part) ≤ 20 = length-decimal-le 20 part (omega arith) (omega arith) part_fits in omega (arith, length-append (decimal part) (codes "." ++ ds));
    }

abbrev magnitude_text : ℕ → ℕ → List ℕ
magnitude_text zero n = decimal n
magnitude_text (suc p) n = with_point (suc p) n

fixed_spelled : (places n : ℕ) → 1 ≤ places → places ≤ 6 → n < 2 ^ 64 → Spelled places n (with_point places n)
fixed_spelled zero n some few h = absurd (omega arith)
fixed_spelled (suc zero) n some few h = point_spelled 1 n (omega arith) (omega arith) (omega arith) (omega arith) h
fixed_spelled (suc (suc zero)) n some few h = point_spelled 2 n (omega arith) (omega arith) (omega arith) (omega arith) h
fixed_spelled (suc (suc (suc zero))) n some few h = point_spelled 3 n (omega arith) (omega arith) (omega arith) (omega arith) h
fixed_spelled (suc (suc (suc (suc zero)))) n some few h = point_spelled 4 n (omega arith) (omega arith) (omega arith) (omega arith) h
fixed_spelled (suc (suc (suc (suc (suc zero))))) n some few h = point_spelled 5 n (omega arith) (omega arith) (omega arith) (omega arith) h
fixed_spelled (suc (suc (suc (suc (suc (suc zero)))))) n some few h = point_spelled 6 n (omega arith) (omega arith) (omega arith) (omega arith) h
fixed_spelled (suc (suc (suc (suc (suc (suc (suc p))))))) n some few h = absurd (omega arith)

-- ---- its number

no_shift : (places count n m : ℕ) → count ≡ places → n ≡ m → n * 10 ^ (places - count) ≡ m
no_shift places count n m same is =
    let none : places - count ≡ 0 = omega arith in
    rw (none, is) (omega arith)

above : (places n : ℕ) (text : List ℕ) → Spelled places n text → FitsSigned w64 (pos n) → WritesNumber places text (pos n)
above places n text s f = record {
  sign = [];
  negative = false;
  whole = s.whole;
  decimals = s.decimals;
  text_is = s.text_is;
  sign_is = inl (refl, refl);
  some_digits = s.some;
  whole_digits = s.whole_digits;
  decimal_digits = s.decimal_digits;
  few_decimals = omega (arith, s.count);
  short = omega (arith, s.short);
  value = ap pos (sym (no_shift places (length s.decimals) (number_of (s.whole ++ s.decimals)) n s.count s.value));
  fits = f;
}

below_zero : (places n : ℕ) (text : List ℕ) → Spelled places (n + 1) text → FitsSigned w64 (negsuc n) → WritesNumber places (codes "-" ++ text) (negsuc n)
below_zero places n text s f =
    let next : suc n ≡ n + 1 = omega arith in
    let is : negsuc n ≡ neg_ℤ (pos (n + 1)) = ap (λ m. neg_ℤ (pos m)) next in
    record {
      sign = codes "-";
      negative = true;
      whole = s.whole;
      decimals = s.decimals;
      text_is = ap (λ t. codes "-" ++ t) s.text_is;
      sign_is = inr (inr (refl, refl));
      some_digits = s.some;
      whole_digits = s.whole_digits;
      decimal_digits = s.decimal_digits;
      few_decimals = omega (arith, s.count);
      short = omega (arith, s.short);
      value = is ∙ ap (λ m. neg_ℤ (pos m)) (sym (no_shift places (length s.decimals) (number_of (s.whole ++ s.decimals)) (n + 1) s.count s.value));
      fits = f;
    }

int_writes : (z : ℤ) → FitsSigned w64 z → WritesNumber 0 (signed_decimal z) z
int_writes (pos n) f = above 0 n (decimal n) (whole_spelled n (omega (arith, f.sfits))) f
int_writes (negsuc n) f =
    let next : suc n ≡ n + 1 = omega arith in
    ap_text (sym next) (below_zero 0 n (decimal (n + 1)) (whole_spelled (n + 1) (omega (arith, f.sfits))) f)
  where
    ap_text : (n + 1 ≡ suc n) → WritesNumber 0 (codes "-" ++ decimal (n + 1)) (negsuc n) → WritesNumber 0 (codes "-" ++ decimal (suc n)) (negsuc n)
    ap_text e w = subst (λ m. WritesNumber 0 (codes "-" ++ decimal m) (negsuc n)) e w

fixed_writes : (places : ℕ) (z : ℤ) → 1 ≤ places → places ≤ 6 → FitsSigned w64 z → WritesNumber places (fixed_text places z) z
fixed_writes places (pos n) some few f = above places n (with_point places n) (fixed_spelled places n some few (omega (arith, f.sfits))) f
fixed_writes places (negsuc n) some few f = below_zero places n (with_point places (n + 1)) (fixed_spelled places (n + 1) some few (omega (arith, f.sfits))) f

flag_writes : (z : ℤ) → IsOfKind kind.Flag z → WritesCell kind.Flag (cell_text kind.Flag z) z
flag_writes z (inl zero_is) = subst (λ w. WritesCell kind.Flag (cell_text kind.Flag w) w) (sym zero_is) (inr (refl, refl))
flag_writes z (inr one_is) = subst (λ w. WritesCell kind.Flag (cell_text kind.Flag w) w) (sym one_is) (inl (refl, refl))

-- ---- texts

-- the text of a code
pub record IsCoded (texts : List (List ℕ)) (z : ℤ) : Type 0 where
  pub text : List ℕ
  pub at : text_at texts z ≡ Some text
  pub sound : is_text text ≡ true
  pub value : cell_value (kind.Text texts) text ≡ Some z

-- a cell of texts is the code of one
pub text_coded : (texts : List (List ℕ)) (z : ℤ) → IsCell (kind.Text texts) z → IsCoded texts z
text_coded texts z c =
    let code : ℕ = c.of_kind.0 in
    let is : z ≡ pos code = c.of_kind.1 in
    let text : List ℕ = c.of_kind.2 in
    let has : text_of texts code ≡ Some text = c.of_kind.3 in
    let place = unless_some (code == 0) (slice_get texts (code - 1)) text has in
    let sound : is_text text ≡ true = one_at texts (code - 1) text c.places.sound place.1 in
    let coded : code_of texts text ≡ Some code = code_there texts code text c.places.distinct has in
    record {
      text = text;
      at = ap (text_at texts) is ∙ has;
      sound = sound;
      value = cell_read_back (kind.Text texts) text z (sound, (code, coded, is));
    }

-- ---- a cell's text is one word, and not long

-- a digit may stand in a word
pub digit-word : (b : ℕ) → is_ascii_digit b ≡ true → is_word_byte b ≡ true
digit-word b h = grind (arith, nat_tests)

-- digits may stand in a word
pub digits_word : (ds : List ℕ) → list_all is_ascii_digit ds ≡ true → list_all is_word_byte ds ≡ true
digits_word ds h = all_like is_ascii_digit is_word_byte digit-word ds h

fraction_word : (ds : List ℕ) → list_all is_ascii_digit ds ≡ true → list_all is_word_byte (fraction ds) ≡ true
fraction_word [] h = refl
fraction_word (d ∷ ds) h = and_both true (list_all is_word_byte (d ∷ ds)) refl (digits_word (d ∷ ds) h)

sign_word : (sign : List ℕ) (negative : Bool) → IsSign sign negative → list_all is_word_byte sign ≡ true
sign_word sign negative (inl s) = ap (list_all is_word_byte) s.0
sign_word sign negative (inr (inl s)) = ap (list_all is_word_byte) s.0
sign_word sign negative (inr (inr s)) = ap (list_all is_word_byte) s.0

-- the text of a number is one word of at most 64 bytes
pub number_word : (places : ℕ) (text : List ℕ) (z : ℤ) → WritesNumber places text z → IsRun text × (length text ≤ 64)
number_word places text z w =
    let rest : List ℕ = w.whole ++ fraction w.decimals in
    let words : list_all is_word_byte rest ≡ true = all_both is_word_byte w.whole (fraction w.decimals) (digits_word w.whole w.whole_digits) (fraction_word w.decimals w.decimal_digits) in
    let long : length text ≡ length (w.sign ++ rest) = ap length w.text_is in (
      record {
        some = omega (arith, long, w.some_digits, length-append w.sign rest, length-append w.whole (fraction w.decimals));
        bytes = ap (list_all is_word_byte) w.text_is ∙ all_both is_word_byte w.sign rest (sign_word w.sign w.negative w.sign_is) words;
      },
      w.short,
    )

-- one word of at most 64 bytes
abbrev pub IsCellWord : List ℕ → Type 0
IsCellWord text = IsRun text × (length text ≤ 64)

true_word : IsCellWord (codes "true")
true_word = (record { some = omega arith; bytes = refl }, omega arith)

false_word : IsCellWord (codes "false")
false_word = (record { some = omega arith; bytes = refl }, omega arith)

flag_word : (text : List ℕ) (z : ℤ) → WritesCell kind.Flag text z → IsCellWord text
flag_word text z (inl w) = subst IsCellWord (sym w.0) true_word
flag_word text z (inr w) = subst IsCellWord (sym w.0) false_word

-- a number and a flag are one
pub text_word : (k : Domain) (text : List ℕ) (z : ℤ) → is_of_texts k ≡ false → WritesCell k text z → IsCellWord text
text_word kind.Int text z n w = number_word 0 text z w
text_word (kind.Fix places) text z n w = number_word places text z w
text_word kind.Flag text z n w = flag_word text z w
text_word (kind.Text texts) text z n w = absurd (true≢false n)

-- a word that is a cell is no text's
pub word_is : (k : Domain) (w : List ℕ) (z : ℤ) → word_value k w ≡ Some z → (is_of_texts k ≡ false) × (cell_value k w ≡ Some z)
word_is k w z h = unless_some (is_of_texts k) (cell_value k w) z h

-- the word of a value is a word of cells
pub value_word : (k : Domain) (w : List ℕ) (z : ℤ) → word_value k w ≡ Some z → IsCellWord w
value_word k w z h = let is = word_is k w z h in text_word k w z is.0 (cell_spelled k w z is.1)

-- ---- a cell's text is one token, and not long

-- neither a word nor a quoted text goes on into what follows
abbrev pub Ends : List ℕ → Type 0
Ends rest = Stops rest × ((slice_index rest 0 == 39) ≡ false)

-- the token of a cell
abbrev pub value_tok : Domain → ℤ → Tok
value_tok kind.Int z = word (cell_text kind.Int z)
value_tok (kind.Fix places) z = word (cell_text (kind.Fix places) z)
value_tok kind.Flag z = word (cell_text kind.Flag z)
value_tok (kind.Text texts) z = quoted (unwrap_or (text_at texts z) [])

-- how the text of a cell is read
pub record IsPrinted (k : Domain) (z : ℤ) : Type 0 where
  pub front : (rest : List ℕ) → Ends rest → tokens (cell_text k z ++ rest) ≡ value_tok k z ∷ tokens rest
  pub value : IsValue k (value_tok k z) z
  pub short : length (cell_text k z) ≤ 130

number_printed : (k : Domain) (z : ℤ) → is_of_texts k ≡ false → value_tok k z ≡ word (cell_text k z) → WritesCell k (cell_text k z) z → IsPrinted k z
number_printed k z n same w =
    let text : List ℕ = cell_text k z in
    let one : IsCellWord text = text_word k text z n w in
    let read : word_value k text ≡ Some z = rw n (cell_read_back k text z w) in
    record {
      front = λ rest ends. front_word text rest one.0 ends.0 ∙ ap (λ t. t ∷ tokens rest) (sym same);
      value = inl (text, same, read);
      short = omega (arith, one.1);
    }

text_printed : (texts : List (List ℕ)) (z : ℤ) → IsCoded texts z → IsPrinted (kind.Text texts) z
text_printed texts z c =
    let text : List ℕ = unwrap_or (text_at texts z) [] in
    let same : text ≡ c.text = ap (λ o. unwrap_or o []) c.at in
    let sound : is_text text ≡ true = ap is_text same ∙ c.sound in
    let short : length text ≤ 64 = text_short text sound in
    record {
      front = λ rest ends. front_quoted text rest ends.1;
      value = inr (text, refl, refl, ap (cell_value (kind.Text texts)) same ∙ c.value);
      short = omega (arith, short, quoted_length text);
    }
  where
    text_short : (t : List ℕ) → is_text t ≡ true → length t ≤ 64
    text_short t h =
        let parts = and_parts (is_utf8 t && nat_le (length t) MOST_BYTES_OF_TEXT) (list_all is_text_byte t) h in
        leb-true (length t) MOST_BYTES_OF_TEXT (and_parts (is_utf8 t) (nat_le (length t) MOST_BYTES_OF_TEXT) parts.0).1

-- a cell is printed as a word that is read as the cell
pub cell_printed : (k : Domain) (z : ℤ) → IsCell k z → IsPrinted k z
cell_printed kind.Int z c = number_printed kind.Int z refl refl (int_writes z c.fits)
cell_printed (kind.Fix places) z c = number_printed (kind.Fix places) z refl refl (fixed_writes places z c.places.0 c.places.1 c.fits)
cell_printed kind.Flag z c = number_printed kind.Flag z refl refl (flag_writes z c.of_kind)
cell_printed (kind.Text texts) z c = text_printed texts z (text_coded texts z c)

-- ---- what is read is a stored cell

one_fits : FitsSigned w64 (pos 1)
one_fits = record { sfits = omega arith }

zero_fits : FitsSigned w64 (pos 0)
zero_fits = record { sfits = omega arith }

stored : (k : Domain) (text : List ℕ) (z : ℤ) → IsDomain k → WritesCell k text z → IsCell k z
stored kind.Int text z p w = record { places = p; of_kind = tt; fits = w.fits }
stored (kind.Fix places) text z p w = record { places = p; of_kind = tt; fits = w.fits }
stored kind.Flag text z p (inl w) = record { places = p; of_kind = inr w.1; fits = subst (FitsSigned w64) (sym w.1) one_fits }
stored kind.Flag text z p (inr w) = record { places = p; of_kind = inl w.1; fits = subst (FitsSigned w64) (sym w.1) zero_fits }
stored (kind.Text texts) text z p w =
    let code : ℕ = w.1.0 in
    let within = code_within texts code text w.1.1 in
    record {
      places = p;
      of_kind = (code, w.1.2, text, code_only texts code text w.1.1);
      fits = subst (FitsSigned w64) (sym w.1.2) (record { sfits = omega (arith, within.1, p.few) });
    }

-- the value of a text of a kind can be stored
pub cell_stored : (k : Domain) (text : List ℕ) (z : ℤ) → IsDomain k → cell_value k text ≡ Some z → IsCell k z
cell_stored k text z p h = stored k text z p (cell_spelled k text z h)
