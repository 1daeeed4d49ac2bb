-- What holds of the attributes of a header, and where a name is found among them.
use Rattle.std.proofs.Common.{◌≡◌, ◌∙◌, ap, sym, refl, ℕ, zero, suc, ◌+◌, ◌<◌, All, true, false, not, cond, List, [], ◌∷◌, length, get_or, Some, None, option_map, position, bytes_eq, slice_get, nat_lt, arith, subst, Ok}
use Rattle.std.proofs.lemmas.Bool.{and_from, and_parts, cond-false, cond-true, lt-ltb, not-true, not_from_false, not_from_true, or_parts}
use Rattle.std.proofs.lemmas.List.{length-map}
use Rattle.std.proofs.lemmas.List.Elements.{All-cons}
use Rattle.std.proofs.lemmas.List.Quantifiers.{position-Some}
use Rattle.std.proofs.lemmas.Option.{none-some, same_Some, slice_get-get_or, slice_get-map, slice_get_within}
use Rattle.std.proofs.lemmas.Slice.Eq.{bytes_eq-Decides}
use Rattle.std.specs.List.{list_all, position_or_len}
use Rattle.sw_rows.specs.Domains.{Domain, IsDomain, IsFresh, IsOver}
use Rattle.sw_rows.specs.Header.{Column, IsSchema, texts_of, texts_or, header_of, is_known, is_name, names_differ, names_of}
use Rattle.sw_rows.specs.Spelling.{WriteColumns}
use Rattle.sw_rows.specs.Texts.{AreTexts}
use Rattle.sw_rows.specs.Domains as kind
use Rattle.sw_rows.proofs.Tables.CellSpelling.{one_further}
use Rattle.sw_rows.proofs.Schemas.ColumnLemmas.{bytes_eq-sym, no_texts}
use Rattle.sw_rows.proofs.Schemas.HeaderSpelling.{header_spelled}

columns-long : (ts : List (List ℕ)) (cs : List Column) → WriteColumns ts cs → length cs ≡ length ts
columns-long [] [] w = refl
columns-long [] (c ∷ cs) w = absurd w
columns-long (t ∷ ts) [] w = absurd w
columns-long (t ∷ ts) (c ∷ cs) w = ap suc (columns-long ts cs w.1)

fresh-sound : (d : Domain) → IsFresh d → IsDomain d
fresh-sound kind.Int h = tt
fresh-sound (kind.Fix places) h = h
fresh-sound kind.Flag h = tt
fresh-sound (kind.Text texts) h = subst AreTexts (sym h) no_texts

fresh-over : (d : Domain) → IsFresh d → IsOver [] d
fresh-over kind.Int h = tt
fresh-over (kind.Fix places) h = tt
fresh-over kind.Flag h = tt
fresh-over (kind.Text texts) h = h

fresh-texts : (d : Domain) (others : List (List ℕ)) → IsFresh d → others ≡ [] → texts_or d others ≡ []
fresh-texts kind.Int others h e = e
fresh-texts (kind.Fix places) others h e = e
fresh-texts kind.Flag others h e = e
fresh-texts (kind.Text texts) others h e = h

columns-fresh : (ts : List (List ℕ)) (cs : List Column) → WriteColumns ts cs → texts_of cs ≡ []
columns-fresh [] [] w = refl
columns-fresh [] (c ∷ cs) w = absurd w
columns-fresh (t ∷ ts) [] w = absurd w
columns-fresh (t ∷ ts) (c ∷ cs) w = fresh-texts c.1 (texts_of cs) w.0.1 (columns-fresh ts cs w.1)

columns-over : (ts : List (List ℕ)) (cs : List Column) → WriteColumns ts cs → All (λ c. IsOver [] c.1) cs
columns-over [] [] w = λ k d lt. absurd (omega arith)
columns-over [] (c ∷ cs) w = absurd w
columns-over (t ∷ ts) [] w = absurd w
columns-over (t ∷ ts) (c ∷ cs) w = All-cons (λ d. IsOver [] d.1) c cs (fresh-over c.1 w.0.1) (columns-over ts cs w.1)

columns-domains : (ts : List (List ℕ)) (cs : List Column) → WriteColumns ts cs → All (λ c. IsDomain c.1) cs
columns-domains [] [] w = λ k d lt. absurd (omega arith)
columns-domains [] (c ∷ cs) w = absurd w
columns-domains (t ∷ ts) [] w = absurd w
columns-domains (t ∷ ts) (c ∷ cs) w = All-cons (λ d. IsDomain d.1) c cs (fresh-sound c.1 w.0.1) (columns-domains ts cs w.1)

columns-named : (ts : List (List ℕ)) (cs : List Column) → WriteColumns ts cs → list_all (λ c. is_name c.0) cs ≡ true
columns-named [] [] w = refl
columns-named [] (c ∷ cs) w = absurd w
columns-named (t ∷ ts) [] w = absurd w
columns-named (t ∷ ts) (c ∷ cs) w = and_from (is_name c.0) (list_all (λ d. is_name d.0) cs) w.0.0 (columns-named ts cs w.1)

-- the attributes of a header are those of a schema
pub header-schema : (fields : List (List ℕ)) (columns : List Column) → header_of fields ≡ Ok columns → IsSchema columns
header-schema fields columns h =
    let w = header_spelled fields columns h in
    let long = columns-long fields columns w.fields_are in
    let some = w.some in
    let few = w.few in
    record {
      some = omega arith;
      sound = record {
        few = omega arith;
        domains = columns-domains fields columns w.fields_are;
        names = columns-named fields columns w.fields_are;
        distinct = w.distinct;
      };
      shared = rw (columns-fresh fields columns w.fields_are) (columns-over fields columns w.fields_are);
    }

-- a name that the columns do not have is none of theirs
other_at : (cs : List Column) (i : ℕ) (new name : List ℕ) → is_known cs new ≡ false → slice_get (names_of cs) i ≡ Some name → bytes_eq new name ≡ false
other_at [] i new name h e = absurd (none-some name e)
other_at (c ∷ cs) zero new name h e = sym (ap (bytes_eq new) (same_Some c.0 name e)) ∙ (or_parts (bytes_eq new c.0) (is_known cs new) h).0
other_at (c ∷ cs) (suc i) new name h e = other_at cs i new name (or_parts (bytes_eq new c.0) (is_known cs new) h).1 e

place_at : (cs : List Column) (i : ℕ) (name : List ℕ) → names_differ cs ≡ true → slice_get (names_of cs) i ≡ Some name → position_or_len (λ (c : Column). bytes_eq name c.0) cs ≡ i
place_at [] i name h e = absurd (none-some name e)
place_at (c ∷ cs) zero name h e =
    cond-false (not (bytes_eq name c.0)) (1 + position_or_len (λ (d : Column). bytes_eq name d.0) cs) 0 (not_from_true (bytes_eq name c.0) ((bytes_eq-Decides name c.0).1 (sym (same_Some c.0 name e))))
place_at (c ∷ cs) (suc i) name h e =
    let parts = and_parts (not (is_known cs c.0)) (names_differ cs) h in
    let other : bytes_eq name c.0 ≡ false = bytes_eq-sym name c.0 ∙ other_at cs i c.0 name (not-true (is_known cs c.0) parts.0) e in
    one_further (not (bytes_eq name c.0)) (position_or_len (λ (d : Column). bytes_eq name d.0) cs) i (not_from_false (bytes_eq name c.0) other) (place_at cs i name parts.1 e)

-- a name is found at its own place
pub name_there : (cs : List Column) (i : ℕ) (name : List ℕ) → names_differ cs ≡ true → slice_get (names_of cs) i ≡ Some name → position (λ (c : Column). bytes_eq name c.0) cs ≡ Some i
name_there cs i name h e =
    let inside : i < length cs = subst (λ n. i < n) (length-map cs (λ (c : Column). c.0)) (slice_get_within (names_of cs) i name e) in
    ap (λ n. cond (nat_lt n (length cs)) (Some n) None) (place_at cs i name h e) ∙ cond-true (nat_lt i (length cs)) (Some i) None (lt-ltb i (length cs) inside)

-- what is found has the name
pub name_only : (cs : List Column) (i : ℕ) (name : List ℕ) → position (λ (c : Column). bytes_eq name c.0) cs ≡ Some i → slice_get (names_of cs) i ≡ Some name
name_only cs i name h =
    let d : Column = ([], kind.Int) in
    let at = position-Some (λ (c : Column). bytes_eq name c.0) cs i d h in
    slice_get-map (λ (c : Column). c.0) cs i
    ∙ ap (option_map (λ (c : Column). c.0)) (slice_get-get_or cs i d at.0)
    ∙ ap (λ n. Some n) (sym ((bytes_eq-Decides name (get_or cs i d).0).0 at.1))
