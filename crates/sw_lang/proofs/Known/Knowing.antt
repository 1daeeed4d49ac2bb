-- A schema that learns the texts of tokens, one after another, and of a line.
use Rattle.std.proofs.Common.{◌≡◌, ◌∙◌, ap, sym, refl, subst, ℕ, All, Bool, true, false, true≢false, List, [], ◌∷◌, ◌++◌, length, take, nat_lt, if◌then◌else◌, append_assoc, append-nil, le_refl, take_all}
use Rattle.std.proofs.lemmas.Bool.{and_from, or_parts}
use Rattle.std.proofs.lemmas.List.Elements.{All-head, All-tail}
use Rattle.std.proofs.lemmas.List.Folds.{list_all-append}
use Rattle.std.specs.List.{list_all}
use Rattle.sw_rows.specs.Domains.{Domain, IsDomain, is_of_texts}
use Rattle.sw_rows.specs.Domains as kind
use Rattle.sw_rows.specs.Header.{Column, IsSchema, has_texts, holding, texts_of, texts_or}
use Rattle.sw_rows.specs.Texts.{AreTexts, is_text, with_texts}
use Rattle.sw_rows.proofs.Schemas.ColumnLemmas.{no_texts}
use Rattle.sw_rows.proofs.Schemas.DomainLaws.{holding_again, holding_long, holding_of_texts, over_numbers, schema_held, schema_holding, texts_of_holding}
use Rattle.sw_rows.proofs.Schemas.TextLaws.{taken_back, with_more}
use Rattle.sw_rows.proofs.Schemas.TextLemmas.{texts_sound}
use Rattle.sw_lang.specs.Learning.{knowing, learned, quoted_text, quoted_texts, texts_in_line}
use Rattle.sw_lang.specs.Reading.{is_comment}
use Rattle.sw_lang.specs.Tokens.{Tok, comma, op, quoted, stray, tokens, word}
use Rattle.sw_lang.specs.declared.reading.parse.TheConstants.{MOST_LINE}

abbrev Texts : Type 0
Texts = List (List ℕ)

-- ---- no further texts

-- a schema stands over its own texts
pub nothing_more : (s : List Column) → IsSchema s → knowing [] s ≡ s
nothing_more s is = schema_held s is

-- a schema without texts holds none
pub numbers_held : (us : Texts) (cs : List Column) → has_texts cs ≡ false → holding us cs ≡ cs
numbers_held us [] h = refl
numbers_held us (c ∷ cs) h =
    let parts = or_parts (is_of_texts c.1) (has_texts cs) h in
    ap (λ d. (c.0, d) ∷ holding us cs) (over_numbers us c.1 parts.0) ∙ ap (λ ds. c ∷ ds) (numbers_held us cs parts.1)

-- where no attribute is of texts, none is made known
pub none_known : (s : List Column) (more : Texts) → has_texts s ≡ false → knowing more s ≡ s
none_known s more none = numbers_held (with_texts (texts_of s) more) s none

-- ---- further texts, and then others

-- a schema with texts still has them when it knows more
pub some_still : (s : List Column) (more : Texts) → has_texts s ≡ true → has_texts (knowing more s) ≡ true
some_still s more some = holding_of_texts (with_texts (texts_of s) more) s ∙ some

known_then : (s : List Column) (more : Texts) → has_texts s ≡ true → texts_of (knowing more s) ≡ with_texts (texts_of s) more
known_then s more some = texts_of_holding (with_texts (texts_of s) more) s (λ h. absurd (true≢false (sym some ∙ h)))

knowing_again : (s : List Column) (xs ys : Texts) → has_texts s ≡ true → knowing ys (knowing xs s) ≡ knowing (xs ++ ys) s
knowing_again s xs ys some =
    ap (λ ts. holding (with_texts ts ys) (knowing xs s)) (known_then s xs some)
    ∙ holding_again (with_texts (texts_of s) xs) (with_texts (with_texts (texts_of s) xs) ys) s
    ∙ ap (λ ts. holding ts s) (sym (with_more (texts_of s) xs ys))

-- those that were known are left
pub forgotten : (s : List Column) (more : Texts) → IsSchema s → has_texts s ≡ true → holding (take (length (texts_of s)) (texts_of (knowing more s))) (knowing more s) ≡ s
forgotten s more is some =
    ap (λ ts. holding (take (length (texts_of s)) ts) (knowing more s)) (known_then s more some)
    ∙ ap (λ ts. holding ts (knowing more s)) (taken_back (texts_of s) more)
    ∙ holding_again (with_texts (texts_of s) more) (texts_of s) s
    ∙ nothing_more s is

-- and what was learned of a line is forgotten
pub line_forgotten : (s : List Column) (text : List ℕ) → IsSchema s → holding (take (length (texts_of s)) (texts_of (learned s text))) (learned s text) ≡ s
line_forgotten s text is = by_test (has_texts s) refl
  where
    by_test : (b : Bool) → has_texts s ≡ b → (let t = if b then knowing (texts_in_line text) s else s in holding (take (length (texts_of s)) (texts_of t)) t ≡ s)
    by_test true some = forgotten s (texts_in_line text) is some
    by_test false none = ap (λ ts. holding ts s) (take_all (length (texts_of s)) (texts_of s) (le_refl (length (texts_of s)))) ∙ nothing_more s is

-- there are as many attributes as before
pub learned_width : (s : List Column) (text : List ℕ) → length (learned s text) ≡ length s
learned_width s text = by_test (has_texts s)
  where
    by_test : (b : Bool) → length (if b then knowing (texts_in_line text) s else s) ≡ length s
    by_test true = holding_long (with_texts (texts_of s) (texts_in_line text)) s
    by_test false = refl

-- ---- the loop over tokens

-- of all texts some are known by now, and others are left
pub record Learning (before now : List Column) (all left : Texts) : Type 0 where
  pub seen : Texts
  pub parts : seen ++ left ≡ all
  pub known : now ≡ knowing seen before

-- at the beginning all texts are left to be learned
pub begin : (s : List Column) (all : Texts) → IsSchema s → Learning s s all all
begin s all is = record { seen = []; parts = refl; known = sym (nothing_more s is) }

-- what is learned next is left no more
pub step : (before now next : List Column) (all xs left : Texts) → has_texts before ≡ true → Learning before now all (xs ++ left) → next ≡ knowing xs now → Learning before next all left
step before now next all xs left some l more =
    record {
      seen = l.seen ++ xs;
      parts = append_assoc l.seen xs left ∙ l.parts;
      known = more ∙ ap (knowing xs) l.known ∙ knowing_again before l.seen xs some;
    }

-- where nothing is left, the schema knows all texts
pub finish : (before now : List Column) (all : Texts) → Learning before now all [] → now ≡ knowing all before
finish before now all l = l.known ∙ ap (λ xs. knowing xs before) (sym (append-nil l.seen) ∙ l.parts)

-- while it learns a schema has texts
pub some_now : (before now : List Column) (all left : Texts) → has_texts before ≡ true → Learning before now all left → has_texts now ≡ true
some_now before now all left some l = ap has_texts l.known ∙ some_still before l.seen some

-- a schema that forgets what it learned is the one before
pub back : (before now : List Column) (all left : Texts) → IsSchema before → has_texts before ≡ true → Learning before now all left → holding (take (length (texts_of before)) (texts_of now)) now ≡ before
back before now all left is some l = ap (λ (s : List Column). holding (take (length (texts_of before)) (texts_of s)) s) l.known ∙ forgotten before l.seen is some

-- ---- a line without texts

passed_over : (s : List Column) (more : Texts) → IsSchema s → more ≡ [] → s ≡ (if has_texts s then knowing more s else s)
passed_over s more is none = by_test (has_texts s)
  where
    by_test : (b : Bool) → s ≡ (if b then knowing more s else s)
    by_test true = sym (ap (λ xs. knowing xs s) none ∙ nothing_more s is)
    by_test false = refl

none_if_long : (text : List ℕ) (long comment : Bool) → long ≡ true → (if long then [] else if comment then [] else quoted_texts (tokens text)) ≡ []
none_if_long text long comment h = rw h refl

none_if_comment : (text : List ℕ) (long comment : Bool) → comment ≡ true → (if long then [] else if comment then [] else quoted_texts (tokens text)) ≡ []
none_if_comment text true comment h = refl
none_if_comment text false comment h = rw h refl

-- a line that is too long teaches nothing
pub none_of_a_long_line : (s : List Column) (text : List ℕ) → IsSchema s → nat_lt MOST_LINE (length text) ≡ true → s ≡ learned s text
none_of_a_long_line s text is h = passed_over s (texts_in_line text) is (none_if_long text (nat_lt MOST_LINE (length text)) (is_comment text) h)

-- a comment teaches nothing
pub none_of_a_comment : (s : List Column) (text : List ℕ) → IsSchema s → is_comment text ≡ true → s ≡ learned s text
none_of_a_comment s text is h = passed_over s (texts_in_line text) is (none_if_comment text (nat_lt MOST_LINE (length text)) (is_comment text) h)

-- ---- a schema that learned is one still

-- the texts of sound attributes are sound
pub texts_known : (cs : List Column) → All (λ c. IsDomain c.1) cs → AreTexts (texts_of cs)
texts_known [] h = no_texts
texts_known (c ∷ cs) h = by_domain c.1 (All-head (λ c. IsDomain c.1) c cs h) (texts_known cs (All-tail (λ c. IsDomain c.1) c cs h))
  where
    by_domain : (d : Domain) → IsDomain d → AreTexts (texts_of cs) → AreTexts (texts_or d (texts_of cs))
    by_domain kind.Int s more = more
    by_domain (kind.Fix places) s more = more
    by_domain kind.Flag s more = more
    by_domain (kind.Text own) s more = s

-- a schema that knows more texts is a schema
pub knowing_schema : (s : List Column) (more : Texts) → IsSchema s → list_all is_text more ≡ true → IsSchema (knowing more s)
knowing_schema s more is sound = by_test (has_texts s) refl
  where
    by_test : (b : Bool) → has_texts s ≡ b → IsSchema (knowing more s)
    by_test true some = (schema_holding (with_texts (texts_of s) more) s is.some is.sound (texts_sound (texts_of s) more (texts_known s is.sound.domains) sound) (λ none. absurd (true≢false (sym some ∙ none)))).0
    by_test false none = subst IsSchema (sym (none_known s more none)) is

-- the texts of a line may be those of cells
one_sound : (text : List ℕ) → list_all is_text (quoted_text (quoted text)) ≡ true
one_sound text = by_test (is_text text) refl
  where
    by_test : (b : Bool) → is_text text ≡ b → list_all is_text (if b then text ∷ [] else []) ≡ true
    by_test true h = rw h refl
    by_test false h = refl

token_sound : (t : Tok) → list_all is_text (quoted_text t) ≡ true
token_sound (word w) = refl
token_sound (op o) = refl
token_sound comma = refl
token_sound (quoted text) = one_sound text
token_sound stray = refl

tokens_sound : (ts : List Tok) → list_all is_text (quoted_texts ts) ≡ true
tokens_sound [] = refl
tokens_sound (t ∷ ts) = list_all-append is_text (quoted_text t) (quoted_texts ts) ∙ and_from (list_all is_text (quoted_text t)) (list_all is_text (quoted_texts ts)) (token_sound t) (tokens_sound ts)

-- the texts of a line may stand in cells
pub line_sound : (text : List ℕ) → list_all is_text (texts_in_line text) ≡ true
line_sound text = by_tests (nat_lt MOST_LINE (length text)) (is_comment text)
  where
    by_tests : (long comment : Bool) → list_all is_text (if long then [] else if comment then [] else quoted_texts (tokens text)) ≡ true
    by_tests true comment = refl
    by_tests false true = refl
    by_tests false false = tokens_sound (tokens text)

-- a schema that learned the texts of a line is a schema
pub learned_schema : (s : List Column) (text : List ℕ) → IsSchema s → IsSchema (learned s text)
learned_schema s text is = by_test (has_texts s)
  where
    by_test : (b : Bool) → IsSchema (if b then knowing (texts_in_line text) s else s)
    by_test true = knowing_schema s (texts_in_line text) is (line_sound text)
    by_test false = is
