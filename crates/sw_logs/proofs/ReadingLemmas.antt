-- What stands when calls were read, one after another.
use Rattle.std.proofs.Common.{◌≡◌, ◌∙◌, refl, sym, ap, ℕ, Bool, true, false, List, [], ◌∷◌, ◌++◌, if◌then◌else◌, append-nil, append_assoc}
use Rattle.sw_rows.specs.Header.{Column, IsSchema, has_texts}
use Rattle.sw_lang.proofs.Known.Knowing.{none_known, nothing_more, step}
use Rattle.sw_lang.specs.Learning.{knowing, learned, texts_in_line}
use Rattle.sw_logs.specs.Readings.{HasMore, KnowsMore}
use Rattle.sw_logs.specs.declared.logged.Logged.{Logged}

-- ---- attributes

-- attributes that stay as they were
pub same_more : (s t : List Column) → IsSchema s → t ≡ s → KnowsMore s t
same_more s t is h = ([], h ∙ sym (nothing_more s is))

-- those that learned the texts of a line
pub learned_more : (s t : List Column) (text : List ℕ) → t ≡ learned s text → KnowsMore s t
learned_more s t text h = by_test (has_texts s) refl h
  where
    by_test : (b : Bool) → has_texts s ≡ b → t ≡ (if b then knowing (texts_in_line text) s else s) → KnowsMore s t
    by_test true some is = (texts_in_line text, is)
    by_test false none is = ([], is ∙ sym (none_known s [] none))

-- those that learned before, and learn once more
pub more_again : (s t u : List Column) → KnowsMore s t → KnowsMore t u → KnowsMore s u
more_again s t u (xs, h) (ys, k) = by_test (has_texts s) refl
  where
    by_test : (b : Bool) → has_texts s ≡ b → KnowsMore s u
    by_test true some = let l = step s t u (xs ++ (ys ++ [])) ys [] some (record { seen = xs; parts = refl; known = h }) k in (l.seen, l.known)
    by_test false none = (ys, k ∙ ap (knowing ys) (h ∙ none_known s xs none))

-- ---- calls

-- no call more
pub none_more : (cs : List Logged) → HasMore cs cs
none_more cs = ([], sym (append-nil cs))

-- one call more
pub one_more : (before now new : List Logged) (c : Logged) → HasMore before now → new ≡ now ++ c ∷ [] → HasMore before new
one_more before now new c (more, h) e = (more ++ c ∷ [], e ∙ (ap (λ (l : List Logged). l ++ c ∷ []) h ∙ append_assoc before more (c ∷ [])))
