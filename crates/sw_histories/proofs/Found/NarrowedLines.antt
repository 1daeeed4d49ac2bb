-- A line that is a call under a schema is the same call where the schema knows fewer texts, those of the line among them.
use Rattle.std.proofs.Common.{◌≡◌, ◌∙◌, ap, sym, refl, ℕ, false, List, [], ◌∷◌, ◌++◌, length, append_assoc, Some, if◌then◌else◌, ◌≤◌, Result, Ok, Err}
use Rattle.std.proofs.lemmas.Bool.{le-ltb}
use Rattle.std.proofs.lemmas.Option.{none-some, same_Some}
use Rattle.sw_rows.specs.Faults.{Fault}
use Rattle.sw_rows.specs.Header.{Column, holding, texts_of}
use Rattle.sw_rows.specs.Texts.{code_given, code_of, with_text, with_texts}
use Rattle.sw_query.specs.declared.query.Call.{Call}
use Rattle.sw_rows.proofs.Schemas.TextLaws.{code_kept, given_kept, never_given, with_more}
use Rattle.sw_lang.specs.Grammar.{IsLine}
use Rattle.sw_lang.specs.Learning.{quoted_text, quoted_texts, texts_in_line}
use Rattle.sw_lang.specs.Reading.{is_comment}
use Rattle.sw_lang.specs.Tokens.{Tok, comma, op, quoted, stray, tokens, word}
use Rattle.sw_lang.specs.declared.reading.parse.TheConstants.{MOST_LINE}
use Rattle.sw_lang.proofs.Known.Lines.{AreCodedToks, AreOver, IsCodedTok, call_kept}

abbrev Texts : Type 0
Texts = List (List ℕ)

-- ---- codes

-- a text that was made known has the code that it has when others are known too
coded_first : (us post rest : Texts) (t : List ℕ) (code : ℕ) → code_of (with_texts (with_texts us (t ∷ post)) rest) t ≡ Some code → code_of (with_texts us (t ∷ post)) t ≡ Some code
coded_first us post rest t code h = by_code (code_given us t) refl
  where
    by_code : (r : Result ℕ Fault) → code_given us t ≡ r → code_of (with_texts us (t ∷ post)) t ≡ Some code
    by_code (Ok c) e =
        let known : code_of (with_texts us (t ∷ post)) t ≡ Some c = code_kept (with_text us t) post t c (given_kept us t c e) in
        let later : code_of (with_texts (with_texts us (t ∷ post)) rest) t ≡ Some c = code_kept (with_texts us (t ∷ post)) rest t c known in
        known ∙ ap (λ n. Some n) (same_Some c code (sym later ∙ h))
    by_code (Err f) e =
        let never = never_given us t ((t ∷ post) ++ rest) f e in
        absurd (none-some code (sym never.0 ∙ ap (λ vs. code_of vs t) (with_more us (t ∷ post) rest) ∙ h))

-- a text among fewer has the code that it has among all
pub coded_in : (ts pre post rest : Texts) (t : List ℕ) (code : ℕ) → code_of (with_texts (with_texts ts (pre ++ t ∷ post)) rest) t ≡ Some code → code_of (with_texts ts (pre ++ t ∷ post)) t ≡ Some code
coded_in ts pre post rest t code h =
    let e = with_more ts pre (t ∷ post) in
    ap (λ us. code_of us t) e ∙ coded_first (with_texts ts pre) post rest t code (ap (λ us. code_of (with_texts us rest) t) (sym e) ∙ h)

-- ---- tokens

tok_coded : (all ts pre post rest known : Texts) (t : Tok) → with_texts (with_texts ts known) rest ≡ all → known ≡ pre ++ (quoted_text t ++ post) → IsCodedTok all (with_texts ts known) t
tok_coded all ts pre post rest known (word w) h e = tt
tok_coded all ts pre post rest known (op o) h e = tt
tok_coded all ts pre post rest known comma h e = tt
tok_coded all ts pre post rest known stray h e = tt
tok_coded all ts pre post rest known (quoted text) h e = λ code sound has.
    let parts : known ≡ pre ++ text ∷ post = e ∙ ap (λ b. pre ++ ((if b then text ∷ [] else []) ++ post)) sound in
    let there : code_of (with_texts (with_texts ts (pre ++ text ∷ post)) rest) text ≡ Some code = ap (λ k. code_of (with_texts (with_texts ts k) rest) text) (sym parts) ∙ ap (λ us. code_of us text) h ∙ has in
    ap (λ k. code_of (with_texts ts k) text) parts ∙ coded_in ts pre post rest text code there

toks_coded : (all ts pre rest known : Texts) (toks : List Tok) → with_texts (with_texts ts known) rest ≡ all → known ≡ pre ++ quoted_texts toks → AreCodedToks all (with_texts ts known) toks
toks_coded all ts pre rest known [] h e = tt
toks_coded all ts pre rest known (t ∷ toks) h e = (
  tok_coded all ts pre (quoted_texts toks) rest known t h e,
  toks_coded all ts (pre ++ quoted_text t) rest known toks h (e ∙ sym (append_assoc pre (quoted_text t) (quoted_texts toks))),
)

-- ---- the line

-- a call's line has the texts of its tokens
pub texts_are : (text : List ℕ) → length text ≤ MOST_LINE → is_comment text ≡ false → texts_in_line text ≡ quoted_texts (tokens text)
texts_are text few e =
    ap (λ b. if b then [] else if is_comment text then [] else quoted_texts (tokens text)) (le-ltb MOST_LINE (length text) few)
    ∙ ap (λ b. if b then [] else quoted_texts (tokens text)) e

-- a line is the same call where the texts behind its own are left out
pub line_narrowed : (ts rest : Texts) (s : List Column) (text : List ℕ) (c : Call) → AreOver (texts_of s) s → with_texts (with_texts ts (texts_in_line text)) rest ≡ texts_of s → IsLine s text (Some c) → IsLine (holding (with_texts ts (texts_in_line text)) s) text (Some c)
line_narrowed ts rest s text c o h (few, e, is) =
    let us = with_texts ts (texts_in_line text) in
    (few, e, call_kept (texts_of s) us s (tokens text) c o (toks_coded (texts_of s) ts [] rest (texts_in_line text) (tokens text) h (texts_are text few e)) is)
