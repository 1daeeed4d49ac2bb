-- What is live after one step: all of a load, one row more, one less, and a step taken back.
use Rattle.std.proofs.Common.{◌≡◌, ◌≢◌, ◌∙◌, ◌-◌, ◌+◌, ◌<◌, ap, sym, refl, subst, fold, drop, ℕ, Bool, true, false, List, [], ◌∷◌, ◌++◌, length, take, get_or, slice_set, All, append-nil, append_assoc, length-set, arith}
use Rattle.std.proofs.lemmas.List.{length_push, nil_from_length, take_at}
use Rattle.sw_table.specs.declared.row.Row.{Row}
use Rattle.sw_table.specs.declared.row.Update.{Update}
use Rattle.sw_table.specs.declared.row.Update.TheVariants.{Insert, Remove}
use Rattle.sw_table.specs.Updates.{without}
use Rattle.sw_set.specs.Live.{IsNextStanding, IsStandingOf, Standing, live_among}
use Rattle.sw_set.specs.Shelf.{Rises, came_then, key_of}
use Rattle.std.proofs.lemmas.List.Sums.{fold-append}
use Rattle.sw_set.proofs.Areas.LiveFinds.{rises-front}
use Rattle.sw_table.proofs.LiveLaws.{kept-all, kept-more, kept-removed, without-lacks}
use Rattle.sw_set.proofs.Merging.Merges.{split-at}

-- one live row more
abbrev pub pushed : Standing → Row → Standing
pushed s r = record { later = s.later ++ r ∷ []; flags = s.flags ++ true ∷ [] }

-- the flag at a place turned
abbrev pub flagged : Standing → ℕ → Bool → Standing
flagged s p b = record s { flags = slice_set s.flags p b }

module _ (load : List Row) (s : Standing) (standing : IsStandingOf load s) where
  -- the rows with one more at their end
  later-pushed : (r : Row) → load ++ (s.later ++ r ∷ []) ≡ (load ++ s.later) ++ r ∷ []
  later-pushed r = sym (append_assoc load s.later (r ∷ []))

  -- a row pushed is live behind the others
  pub live-pushed : (r : Row) → live_among load (pushed s r) ≡ live_among load s ++ r ∷ []
  live-pushed r = rw (later-pushed r) (kept-more s.flags (load ++ s.later) r standing.many)

  -- with a flag turned it is a standing of the same load
  pub standing-flagged : (p : ℕ) (b : Bool) → IsStandingOf load (flagged s p b)
  standing-flagged p b = record { many = length-set s.flags p b ∙ standing.many; rise = standing.rise }

  -- with the flag false at the place of key k, the live rows are those without k
  pub live-removed : (k p : ℕ) (d : Row) → p < length (load ++ s.later) → (get_or (load ++ s.later) p d).key ≡ k → live_among load (flagged s p false) ≡ without k (live_among load s)
  live-removed k p d lt is = kept-removed k d s.flags (load ++ s.later) p standing.many standing.rise lt is

  -- ---- one update more
  -- an insert is the row pushed, where the rows with it rise by key
  pub next-pushed : (r : Row) → Rises key_of ((load ++ s.later) ++ r ∷ []) → IsNextStanding load (Insert r) s (pushed s r)
  next-pushed r rise = record {
    standing = record {
      many = length_push s.flags true ∙ ap (λ n. n + 1) standing.many ∙ sym (length_push (load ++ s.later) r) ∙ sym (ap length (later-pushed r));
      rise = subst (Rises key_of) (sym (later-pushed r)) rise;
    };
    came = later-pushed r;
    live = live-pushed r;
  }

  -- a removal of the key at a place is the flag there turned false
  pub next-removed : (k p : ℕ) (d : Row) → p < length (load ++ s.later) → (get_or (load ++ s.later) p d).key ≡ k → IsNextStanding load (Remove k) s (flagged s p false)
  next-removed k p d lt is = record { standing = standing-flagged p false; came = refl; live = live-removed k p d lt is }

  -- a removal of a key that no row has changes nothing
  pub next-absent : (k : ℕ) → All (λ (r : Row). r.key ≢ k) (load ++ s.later) → IsNextStanding load (Remove k) s s
  next-absent k none = record { standing = standing; came = refl; live = sym (without-lacks k s.flags (load ++ s.later) none) }

-- what came before updates rises where what came with them does
pub rises-came : (cs : List Row) (us : List Update) → Rises key_of (fold came_then cs us) → Rises key_of cs
rises-came cs [] h = h
rises-came cs (Insert r ∷ us) h = rises-front cs (r ∷ []) (rises-came (cs ++ r ∷ []) us h)
rises-came cs (Remove k ∷ us) h = rises-came cs us h

-- where the rows that came with all updates rise, so do those that came with the first of them
pub rises-part : (cs : List Row) (us : List Update) (i : ℕ) → Rises key_of (fold came_then cs us) → Rises key_of (fold came_then cs (take i us))
rises-part cs us i h =
    rises-came (fold came_then cs (take i us)) (drop i us) (subst (Rises key_of) (ap (fold came_then cs) (sym (split-at i us)) ∙ fold-append came_then cs (take i us) (drop i us)) h)

-- the last item taken away again
pub push-undone : {X : Type 0} (xs : List X) (x : X) → take (length (xs ++ x ∷ []) - 1) (xs ++ x ∷ []) ≡ xs
push-undone xs x = take_at xs (x ∷ []) (length (xs ++ x ∷ []) - 1) (let h = length_push xs x in omega (arith, h))

-- where nothing went and nothing came later, the live rows are those of the load
pub live-load : (load : List Row) (s : Standing) → length s.flags ≡ length (load ++ s.later) → length s.later ≡ 0 → All (λ (b : Bool). b ≡ true) s.flags → live_among load s ≡ load
live-load load s many none all = kept-all s.flags (load ++ s.later) many all ∙ ap (λ v. load ++ v) (nil_from_length s.later none) ∙ append-nil load
