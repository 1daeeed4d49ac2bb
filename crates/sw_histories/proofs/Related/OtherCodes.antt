-- Two tables whose texts are the same under other codes reply the same lines.
use Rattle.std.proofs.Common.{◌≡◌, ◌∙◌, ap, ap₂, sym, All, codes, decimal, refl, subst, ℕ, ℤ, pos, negsuc, zero, suc, ◌+◌, ◌==◌, Bool, true, false, not, cond, ◌&&◌, List, [], ◌∷◌, ◌++◌, length, map, arith, Option, Some, None, ltb, leb}
use Rattle.std.specs.List.{list_all}
use Rattle.std.specs.Prelude.{unwrap_or}
use Rattle.std.proofs.lemmas.Bool.Decides.{Decides-eqb, nat_tests, same_from_decides}
use Rattle.std.proofs.lemmas.List.{length-map}
use Rattle.std.proofs.lemmas.Option.{none-some, same_Some}
use Rattle.std.specs.Bool.{Decides}
use Rattle.sw_table.specs.declared.row.Row.{Row}
use Rattle.sw_table.specs.declared.row.Update.TheVariants as update
use Rattle.sw_query.specs.Bounds.{bound_below, greater, is_above, is_below, is_left, is_within, lesser}
use Rattle.sw_rows.specs.Domains.{Domain, IsOver, is_of_texts, over}
use Rattle.sw_rows.specs.Domains as kind
use Rattle.sw_rows.specs.Header.{Column, holding}
use Rattle.sw_query.specs.Scan.{answer_over, cell_of, column, greatest, least, matching, meets, meets_all, projected, shown_cells, total}
use Rattle.sw_rows.specs.Texts.{text_at, text_of, texts_differ}
use Rattle.sw_query.specs.declared.bound.Bound.{Bound}
use Rattle.sw_query.specs.declared.bound.Bound.TheVariants.{Before, After}
use Rattle.sw_query.specs.declared.query.Cond.{Cond}
use Rattle.sw_query.specs.declared.query.Want.{Want}
use Rattle.sw_query.specs.declared.query.Want.TheVariants as want
use Rattle.sw_rows.proofs.Schemas.DomainLaws.{over_numbers}
use Rattle.sw_rows.proofs.Schemas.TextLaws.{code_there}
use Rattle.sw_lang.specs.Reading.{is_equality}
use Rattle.sw_lang.specs.Replies.{cell_text, extreme_text, kind_at, kinds_wanted, lines_of, more_cells, quoted_text, row_line, rows_line, sum_text}
use Rattle.sw_lang.specs.Terms.{attrs_after, cond_on, conditions, lower_after, lower_of, upper_after, upper_of, with_attr}
use Rattle.sw_lang.specs.declared.reading.term.Term.{Term}
use Rattle.sw_lang.specs.declared.reading.token.Op.{Op}
use Rattle.sw_lang.specs.declared.reading.token.Op.TheVariants.{Lt, Le, Eq, Ge, Gt}

-- the texts of each domain, by their codes
abbrev pub Texts : Type 0
Texts = List (List ℕ)

-- ---- cells and rows

-- a number is the same, and a text has a code on either side
abbrev pub SameCell : Texts → Texts → Domain → ℤ → ℤ → Type 0
SameCell ts us kind.Int z y = z ≡ y
SameCell ts us (kind.Fix places) z y = z ≡ y
SameCell ts us kind.Flag z y = z ≡ y
SameCell ts us (kind.Text own) z y = (t : List ℕ) × (text_at ts z ≡ Some t) × (text_at us y ≡ Some t)

-- two rows of one key whose cells are the same values, each by its texts
pub record SameRow (ts us : Texts) (cs : List Column) (r s : Row) : Type 0 where
  pub key : r.key ≡ s.key
  pub cells : (a : ℕ) → SameCell ts us (kind_at cs a) (cell_of a r) (cell_of a s)

-- that of two lists of rows
abbrev pub SameRows : Texts → Texts → List Column → List Row → List Row → Type 0
SameRows ts us cs [] [] = Unit {0}
SameRows ts us cs [] (s ∷ ss) = ⊥
SameRows ts us cs (r ∷ rs) [] = ⊥
SameRows ts us cs (r ∷ rs) (s ∷ ss) = SameRow ts us cs r s × SameRows ts us cs rs ss

same_numbers : (ts us : Texts) (d : Domain) (z y : ℤ) → is_of_texts d ≡ false → SameCell ts us d z y → z ≡ y
same_numbers ts us kind.Int z y h s = s
same_numbers ts us (kind.Fix places) z y h s = s
same_numbers ts us kind.Flag z y h s = s
same_numbers ts us (kind.Text own) z y h s = absurd cc

-- ---- comparisons

-- two conditions on one attribute whose bounds are the same values
pub record SameTerm (ts us : Texts) (cs : List Column) (t u : Term) : Type 0 where
  pub attr : t.attr ≡ u.attr
  pub op : t.op ≡ u.op
  pub fits : (is_of_texts (kind_at cs t.attr) && not (is_equality t.op)) ≡ false
  pub value : SameCell ts us (kind_at cs t.attr) t.value u.value

-- that of two lists of conditions
abbrev pub SameTerms : Texts → Texts → List Column → List Term → List Term → Type 0
SameTerms ts us cs [] [] = Unit {0}
SameTerms ts us cs [] (x ∷ xs) = ⊥
SameTerms ts us cs (t ∷ ts₁) [] = ⊥
SameTerms ts us cs (t ∷ ts₁) (x ∷ xs) = SameTerm ts us cs t x × SameTerms ts us cs ts₁ xs

-- what lies left of a bound lies left of each above it
left-below : (b c : Bound) (v : ℤ) → bound_below b c ≡ true → is_left b v ≡ true → is_left c v ≡ true
left-below (Before u) (Before w) v p q = grind (arith, p, q)
left-below (Before u) (After w) v p q = grind (arith, p, q)
left-below (After u) (Before w) v p q = grind (arith, p, q)
left-below (After u) (After w) v p q = grind (arith, p, q)

left-above : (b c : Bound) (v : ℤ) → bound_below b c ≡ false → is_left c v ≡ true → is_left b v ≡ true
left-above (Before u) (Before w) v p q = grind (arith, p, q)
left-above (Before u) (After w) v p q = grind (arith, p, q)
left-above (After u) (Before w) v p q = grind (arith, p, q)
left-above (After u) (After w) v p q = grind (arith, p, q)

-- where one of two follows from the other, both are the one
both-not : (a b : Bool) → (a ≡ true → b ≡ true) → not b ≡ (not a && not b)
both-not true b h = ap not (h refl)
both-not false b h = refl

both-not-turned : (a b : Bool) → (b ≡ true → a ≡ true) → not a ≡ (not a && not b)
both-not-turned true b h = refl
both-not-turned false true h = absurd (let e : false ≡ true = h refl in cc)
both-not-turned false false h = refl

both-yes : (a b : Bool) → (a ≡ true → b ≡ true) → a ≡ (a && b)
both-yes true b h = sym (h refl)
both-yes false b h = refl

both-yes-turned : (a b : Bool) → (b ≡ true → a ≡ true) → b ≡ (a && b)
both-yes-turned true b h = refl
both-yes-turned false true h = absurd (let e : false ≡ true = h refl in cc)
both-yes-turned false false h = refl

and-true : (a : Bool) → a ≡ (a && true)
and-true true = refl
and-true false = refl

above-greater : (l m : Option Bound) (z : ℤ) → is_above (greater l m) z ≡ (is_above l z && is_above m z)
above-greater None m z = refl
above-greater (Some a) None z = and-true (not (is_left a z))
above-greater (Some a) (Some b) z = by-order (bound_below a b) refl
  where
    by-order : (o : Bool) → bound_below a b ≡ o → is_above (cond o (Some b) (Some a)) z ≡ (not (is_left a z) && not (is_left b z))
    by-order true e = both-not (is_left a z) (is_left b z) (left-below a b z e)
    by-order false e = both-not-turned (is_left a z) (is_left b z) (left-above a b z e)

below-lesser : (l m : Option Bound) (z : ℤ) → is_below (lesser l m) z ≡ (is_below l z && is_below m z)
below-lesser None m z = refl
below-lesser (Some a) None z = and-true (is_left a z)
below-lesser (Some a) (Some b) z = by-order (bound_below a b) refl
  where
    by-order : (o : Bool) → bound_below a b ≡ o → is_below (cond o (Some a) (Some b)) z ≡ (is_left a z && is_left b z)
    by-order true e = both-yes (is_left a z) (is_left b z) (left-below a b z e)
    by-order false e = both-yes-turned (is_left a z) (is_left b z) (left-above a b z e)

four : (a b c d : Bool) → ((a && c) && (b && d)) ≡ ((a && b) && (c && d))
four true true c d = refl
four true false true d = refl
four true false false d = refl
four false b c d = refl

-- a cell meets a term
abbrev meets_term : ℤ → Term → Bool
meets_term z t = is_within (lower_of t.op t.value) (upper_of t.op t.value) z

-- a cell meets all terms on an attribute
abbrev meets_on : ℕ → ℤ → List Term → Bool
meets_on a z [] = true
meets_on a z (t ∷ ts) = cond (t.attr == a) (meets_term z t) true && meets_on a z ts

and-assoc : (p q r : Bool) → ((p && q) && r) ≡ (p && (q && r))
and-assoc true q r = refl
and-assoc false q r = refl

-- what bounds say of a cell, before further terms
abbrev WithinAll : ℕ → ℤ → List Term → Type 0
WithinAll a z ts = (l u : Option Bound) → is_within (lower_after a l ts) (upper_after a u ts) z ≡ (is_within l u z && meets_on a z ts)

within-all : (a : ℕ) (z : ℤ) (ts : List Term) → WithinAll a z ts
within-all a z [] l u = and-true (is_within l u z)
within-all a z (t ∷ ts) l u = by-attr (within-all a z ts) (t.attr == a)
  where
    by-attr : WithinAll a z ts → (b : Bool) → is_within (lower_after a (cond b (greater l (lower_of t.op t.value)) l) ts) (upper_after a (cond b (lesser u (upper_of t.op t.value)) u) ts) z ≡ (is_within l u z && (cond b (meets_term z t) true && meets_on a z ts))
    by-attr rest true =
        rest (greater l (lower_of t.op t.value)) (lesser u (upper_of t.op t.value))
        ∙ ap (λ b. (b && is_below (lesser u (upper_of t.op t.value)) z) && meets_on a z ts) (above-greater l (lower_of t.op t.value) z)
        ∙ ap (λ b. ((is_above l z && is_above (lower_of t.op t.value) z) && b) && meets_on a z ts) (below-lesser u (upper_of t.op t.value) z)
        ∙ ap (λ b. b && meets_on a z ts) (four (is_above l z) (is_below u z) (is_above (lower_of t.op t.value) z) (is_below (upper_of t.op t.value) z))
        ∙ and-assoc (is_within l u z) (meets_term z t) (meets_on a z ts)
    by-attr rest false = rest l u

-- ---- codes

-- one text has one code
one-code : (ts : Texts) (z v : ℤ) (t : List ℕ) → texts_differ ts ≡ true → text_at ts z ≡ Some t → text_at ts v ≡ Some t → z ≡ v
one-code ts (pos m) (pos n) t d e f = ap pos (same_Some m n (sym (code_there ts m t d e) ∙ code_there ts n t d f))
one-code ts (pos m) (negsuc n) t d e f = absurd (none-some t f)
one-code ts (negsuc m) v t d e f = absurd (none-some t e)

-- from a code up to it lies the code itself
equal-within : (m n : ℕ) → (not (ltb m n) && leb m n) ≡ (m == n)
equal-within m n = grind (arith, nat_tests)

-- two codes are equal where those of the same texts are
equal-codes : (ts us : Texts) (z y v w : ℤ) → texts_differ ts ≡ true → texts_differ us ≡ true → (t : List ℕ) → text_at ts z ≡ Some t → text_at us y ≡ Some t → (x : List ℕ) → text_at ts v ≡ Some x → text_at us w ≡ Some x → is_within (Some (Before v)) (Some (After v)) z ≡ is_within (Some (Before w)) (Some (After w)) y
equal-codes ts us (negsuc z) y v w d e t a b x f g = absurd (none-some t a)
equal-codes ts us (pos z) (negsuc y) v w d e t a b x f g = absurd (none-some t b)
equal-codes ts us (pos z) (pos y) (negsuc v) w d e t a b x f g = absurd (none-some x f)
equal-codes ts us (pos z) (pos y) (pos v) (negsuc w) d e t a b x f g = absurd (none-some x g)
equal-codes ts us (pos z) (pos y) (pos v) (pos w) d e t a b x f g =
    equal-within z v ∙ same_from_decides (z == v) (y == w) (Decides-eqb z v) alike ∙ sym (equal-within y w)
  where
    there : z ≡ v → y ≡ w
    there h = let same : t ≡ x = same_Some t x (sym a ∙ ap (text_of ts) h ∙ f) in pos-same (one-code us (pos y) (pos w) x e (b ∙ ap (λ k. Some k) same) g)
      where
        pos-same : {m n : ℕ} → pos m ≡ pos n → m ≡ n
        pos-same h = grind (arith, h)

    back : y ≡ w → z ≡ v
    back h = let same : t ≡ x = same_Some t x (sym b ∙ ap (text_of us) h ∙ g) in pos-same (one-code ts (pos z) (pos v) x d (a ∙ ap (λ k. Some k) same) f)
      where
        pos-same : {m n : ℕ} → pos m ≡ pos n → m ≡ n
        pos-same h = grind (arith, h)

    alike : Decides (y == w) (z ≡ v)
    alike = let tells = Decides-eqb y w in (λ h. back (tells.0 h), λ h. tells.1 (there h))

-- ---- conditions

equality : (o : Op) → not (is_equality o) ≡ false → o ≡ Eq
equality Lt h = absurd cc
equality Le h = absurd cc
equality Eq h = refl
equality Ge h = absurd cc
equality Gt h = absurd cc

term-same : (ts us : Texts) (d : Domain) (o : Op) (z y v w : ℤ) → texts_differ ts ≡ true → texts_differ us ≡ true → (is_of_texts d && not (is_equality o)) ≡ false → SameCell ts us d v w → SameCell ts us d z y → is_within (lower_of o v) (upper_of o v) z ≡ is_within (lower_of o w) (upper_of o w) y
term-same ts us kind.Int o z y v w d e f s c = rw (s, c) refl
term-same ts us (kind.Fix places) o z y v w d e f s c = rw (s, c) refl
term-same ts us kind.Flag o z y v w d e f s c = rw (s, c) refl
term-same ts us (kind.Text own) o z y v w d e f (x, p, q) (t, a, b) = rw (equality o f) (equal-codes ts us z y v w d e t a b x p q)

meets-same : (ts us : Texts) (cs : List Column) (a : ℕ) (z y : ℤ) (xs ys : List Term) → texts_differ ts ≡ true → texts_differ us ≡ true → SameCell ts us (kind_at cs a) z y → SameTerms ts us cs xs ys → meets_on a z xs ≡ meets_on a y ys
meets-same ts us cs a z y [] [] d e c s = refl
meets-same ts us cs a z y [] (y₁ ∷ ys) d e c s = absurd s
meets-same ts us cs a z y (x ∷ xs) [] d e c s = absurd s
meets-same ts us cs a z y (x ∷ xs) (w ∷ ws) d e c s = by-attr (meets-same ts us cs a z y xs ws d e c s.1) (x.attr == a) refl
  where
    others : (w.attr == a) ≡ (x.attr == a)
    others = ap (λ n. n == a) (sym s.0.attr)

    by-attr : meets_on a z xs ≡ meets_on a y ws → (b : Bool) → (x.attr == a) ≡ b → (cond (x.attr == a) (meets_term z x) true && meets_on a z xs) ≡ (cond (w.attr == a) (meets_term y w) true && meets_on a y ws)
    by-attr rest true on =
        let at : x.attr ≡ a = (Decides-eqb x.attr a).0 on in
        let value : SameCell ts us (kind_at cs a) x.value w.value = subst (λ n. SameCell ts us (kind_at cs n) x.value w.value) at s.0.value in
        let fits : (is_of_texts (kind_at cs a) && not (is_equality x.op)) ≡ false = subst (λ n. (is_of_texts (kind_at cs n) && not (is_equality x.op)) ≡ false) at s.0.fits in
        let here : meets_term z x ≡ meets_term y w = term-same ts us (kind_at cs a) x.op z y x.value w.value d e fits value c ∙ ap (λ o. is_within (lower_of o w.value) (upper_of o w.value) y) s.0.op in
        rw (others, on, here, rest) refl
    by-attr rest false off = rw (others, off, rest) refl

attrs-same : (ts us : Texts) (cs : List Column) (attrs : List ℕ) (xs ys : List Term) → SameTerms ts us cs xs ys → attrs_after attrs xs ≡ attrs_after attrs ys
attrs-same ts us cs attrs [] [] s = refl
attrs-same ts us cs attrs [] (y ∷ ys) s = absurd s
attrs-same ts us cs attrs (x ∷ xs) [] s = absurd s
attrs-same ts us cs attrs (x ∷ xs) (y ∷ ys) s = ap (λ a. attrs_after (with_attr attrs a) xs) s.0.attr ∙ attrs-same ts us cs (with_attr attrs y.attr) xs ys s.1

all-on : (ts us : Texts) (cs : List Column) (r s : Row) (xs ys : List Term) (attrs : List ℕ) → texts_differ ts ≡ true → texts_differ us ≡ true → SameRow ts us cs r s → SameTerms ts us cs xs ys → list_all (meets r) (map (cond_on xs) attrs) ≡ list_all (meets s) (map (cond_on ys) attrs)
all-on ts us cs r s xs ys [] d e row h = refl
all-on ts us cs r s xs ys (a ∷ attrs) d e row h =
    let here : meets r (cond_on xs a) ≡ meets s (cond_on ys a) =
    within-all a (cell_of a r) xs None None ∙ meets-same ts us cs a (cell_of a r) (cell_of a s) xs ys d e (row.cells a) h ∙ sym (within-all a (cell_of a s) ys None None) in
    ap (λ b. b && list_all (meets r) (map (cond_on xs) attrs)) here ∙ ap (λ b. meets s (cond_on ys a) && b) (all-on ts us cs r s xs ys attrs d e row h)

-- no conditions, or those of comparisons that are the same
abbrev pub SameConds : Texts → Texts → List Column → List Cond → List Cond → Type 0
SameConds ts us cs xs ys =
    (terms others : List Term) × (xs ≡ conditions terms) × (ys ≡ conditions others) × SameTerms ts us cs terms others

conds-same : (ts us : Texts) (cs : List Column) (r s : Row) (xs ys : List Cond) → texts_differ ts ≡ true → texts_differ us ≡ true → SameRow ts us cs r s → SameConds ts us cs xs ys → meets_all xs r ≡ meets_all ys s
conds-same ts us cs r s xs ys d e row (terms, others, p, q, h) =
    ap (λ (l : List Cond). meets_all l r) p
    ∙ all-on ts us cs r s terms others (attrs_after [] terms) d e row h
    ∙ ap (λ attrs. list_all (meets s) (map (cond_on others) attrs)) (attrs-same ts us cs [] terms others h)
    ∙ ap (λ (l : List Cond). meets_all l s) (sym q)

-- the rows that meet conditions are the same
pub matching_same : (ts us : Texts) (cs : List Column) (rs ss : List Row) (xs ys : List Cond) → texts_differ ts ≡ true → texts_differ us ≡ true → SameRows ts us cs rs ss → SameConds ts us cs xs ys → SameRows ts us cs (matching xs rs) (matching ys ss)
matching_same ts us cs [] [] xs ys d e h c = tt
matching_same ts us cs [] (s ∷ ss) xs ys d e h c = absurd h
matching_same ts us cs (r ∷ rs) [] xs ys d e h c = absurd h
matching_same ts us cs (r ∷ rs) (s ∷ ss) xs ys d e h c = by-test (matching_same ts us cs rs ss xs ys d e h.1 c) (meets_all xs r) (meets_all ys s) (conds-same ts us cs r s xs ys d e h.0 c)
  where
    by-test : SameRows ts us cs (matching xs rs) (matching ys ss) → (b q : Bool) → b ≡ q → SameRows ts us cs (cond b (r ∷ matching xs rs) (matching xs rs)) (cond q (s ∷ matching ys ss) (matching ys ss))
    by-test rest true true e = (h.0, rest)
    by-test rest true false e = absurd cc
    by-test rest false true e = absurd cc
    by-test rest false false e = rest

-- ---- lines

-- a domain over other texts, by its column
pub over_held : (us : Texts) (cs : List Column) (a : ℕ) → kind_at (holding us cs) a ≡ over us (kind_at cs a)
over_held us [] zero = refl
over_held us [] (suc a) = refl
over_held us (c ∷ cs) zero = refl
over_held us (c ∷ cs) (suc a) = over_held us cs a

-- a column's own texts are those of the table
pub own_texts : (ts : Texts) (cs : List Column) (a : ℕ) → All (λ c. IsOver ts c.1) cs → IsOver ts (kind_at cs a)
own_texts ts [] zero h = tt
own_texts ts [] (suc a) h = tt
own_texts ts (c ∷ cs) zero h = h 0 c (omega arith)
own_texts ts (c ∷ cs) (suc a) h = own_texts ts cs a (λ k d lt. h (suc k) d (omega (arith, lt)))

cell-line : (ts us : Texts) (d : Domain) (z y : ℤ) → IsOver ts d → SameCell ts us d z y → cell_text d z ≡ cell_text (over us d) y
cell-line ts us kind.Int z y o s = ap (cell_text kind.Int) s
cell-line ts us (kind.Fix places) z y o s = ap (cell_text (kind.Fix places)) s
cell-line ts us kind.Flag z y o s = ap (cell_text kind.Flag) s
cell-line ts us (kind.Text own) z y o (t, a, b) = ap (λ l. cell_text (kind.Text l) z) o ∙ ap (λ x. quoted_text (unwrap_or x [])) (a ∙ sym b)

-- a cell of an attribute reads the same
line-at : (ts us : Texts) (cs : List Column) (a : ℕ) (r s : Row) → All (λ c. IsOver ts c.1) cs → SameRow ts us cs r s → cell_text (kind_at cs a) (cell_of a r) ≡ cell_text (kind_at (holding us cs) a) (cell_of a s)
line-at ts us cs a r s o h = cell-line ts us (kind_at cs a) (cell_of a r) (cell_of a s) (own_texts ts cs a o) (h.cells a) ∙ ap (λ d. cell_text d (cell_of a s)) (sym (over_held us cs a))

more-line : (ts us : Texts) (cs : List Column) (names : List ℕ) (r s : Row) → All (λ c. IsOver ts c.1) cs → SameRow ts us cs r s → more_cells (map (kind_at cs) names) (shown_cells names r) ≡ more_cells (map (kind_at (holding us cs)) names) (shown_cells names s)
more-line ts us cs [] r s o h = refl
more-line ts us cs (a ∷ names) r s o h = ap₂ (λ (t : List ℕ) (u : List ℕ). codes ", " ++ (t ++ u)) (line-at ts us cs a r s o h) (more-line ts us cs names r s o h)

row-line : (ts us : Texts) (cs : List Column) (names : List ℕ) (r s : Row) → All (λ c. IsOver ts c.1) cs → SameRow ts us cs r s → row_line (map (kind_at cs) names) (projected names r) ≡ row_line (map (kind_at (holding us cs)) names) (projected names s)
row-line ts us cs [] r s o h = ap (λ k. decimal k ++ (codes ": " ++ [])) h.key
row-line ts us cs (a ∷ names) r s o h =
    ap (λ k. decimal k ++ (codes ": " ++ (cell_text (kind_at cs a) (cell_of a r) ++ more_cells (map (kind_at cs) names) (shown_cells names r)))) h.key
    ∙ ap₂ (λ (t : List ℕ) (u : List ℕ). decimal s.key ++ (codes ": " ++ (t ++ u))) (line-at ts us cs a r s o h) (more-line ts us cs names r s o h)

rows-lines : (ts us : Texts) (cs : List Column) (names : List ℕ) (rs ss : List Row) → All (λ c. IsOver ts c.1) cs → SameRows ts us cs rs ss → map (row_line (map (kind_at cs) names)) (map (projected names) rs) ≡ map (row_line (map (kind_at (holding us cs)) names)) (map (projected names) ss)
rows-lines ts us cs names [] [] o h = refl
rows-lines ts us cs names [] (s ∷ ss) o h = absurd h
rows-lines ts us cs names (r ∷ rs) [] o h = absurd h
rows-lines ts us cs names (r ∷ rs) (s ∷ ss) o h = ap₂ (λ (t : List ℕ) (l : List (List ℕ)). t ∷ l) (row-line ts us cs names r s o h.0) (rows-lines ts us cs names rs ss o h.1)

-- as many rows
pub as_many : (ts us : Texts) (cs : List Column) (rs ss : List Row) → SameRows ts us cs rs ss → length rs ≡ length ss
as_many ts us cs [] [] h = refl
as_many ts us cs [] (s ∷ ss) h = absurd h
as_many ts us cs (r ∷ rs) [] h = absurd h
as_many ts us cs (r ∷ rs) (s ∷ ss) h = ap suc (as_many ts us cs rs ss h.1)

same-column : (ts us : Texts) (cs : List Column) (a : ℕ) (rs ss : List Row) → is_of_texts (kind_at cs a) ≡ false → SameRows ts us cs rs ss → column a rs ≡ column a ss
same-column ts us cs a [] [] n h = refl
same-column ts us cs a [] (s ∷ ss) n h = absurd h
same-column ts us cs a (r ∷ rs) [] n h = absurd h
same-column ts us cs a (r ∷ rs) (s ∷ ss) n h = ap₂ (λ (z : ℤ) (l : List ℤ). z ∷ l) (same_numbers ts us (kind_at cs a) (cell_of a r) (cell_of a s) n (h.0.cells a)) (same-column ts us cs a rs ss n h.1)

same-kind : (us : Texts) (cs : List Column) (a : ℕ) → is_of_texts (kind_at cs a) ≡ false → kind_at (holding us cs) a ≡ kind_at cs a
same-kind us cs a n = over_held us cs a ∙ over_numbers us (kind_at cs a) n

-- what is asked for sums and compares numbers alone
abbrev pub AsksNumbers : List Column → Want → Type 0
AsksNumbers cs (want.Rows names) = Unit {0}
AsksNumbers cs want.Count = Unit {0}
AsksNumbers cs (want.Sum a) = is_of_texts (kind_at cs a) ≡ false
AsksNumbers cs (want.Min a) = is_of_texts (kind_at cs a) ≡ false
AsksNumbers cs (want.Max a) = is_of_texts (kind_at cs a) ≡ false

-- the reply has the same lines
pub answer_lines : (ts us : Texts) (cs : List Column) (rs ss : List Row) (w : Want) → All (λ c. IsOver ts c.1) cs → SameRows ts us cs rs ss → AsksNumbers cs w → lines_of (kinds_wanted cs w) (answer_over rs w) ≡ lines_of (kinds_wanted (holding us cs) w) (answer_over ss w)
answer_lines ts us cs rs ss (want.Rows names) o h n =
    ap₂ (λ (l : List (List ℕ)) (k : ℕ). l ++ rows_line k ∷ []) (rows-lines ts us cs names rs ss o h) (length-map rs (projected names) ∙ as_many ts us cs rs ss h ∙ sym (length-map ss (projected names)))
answer_lines ts us cs rs ss want.Count o h n = ap (λ k. decimal k ∷ []) (as_many ts us cs rs ss h)
answer_lines ts us cs rs ss (want.Sum a) o h n = ap₂ (λ (d : Domain) (l : List ℤ). sum_text d (total l) ∷ []) (sym (same-kind us cs a n)) (same-column ts us cs a rs ss n h)
answer_lines ts us cs rs ss (want.Min a) o h n = ap₂ (λ (d : Domain) (l : List ℤ). extreme_text d (least l) ∷ []) (sym (same-kind us cs a n)) (same-column ts us cs a rs ss n h)
answer_lines ts us cs rs ss (want.Max a) o h n = ap₂ (λ (d : Domain) (l : List ℤ). extreme_text d (greatest l) ∷ []) (sym (same-kind us cs a n)) (same-column ts us cs a rs ss n h)
