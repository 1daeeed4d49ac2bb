-- The blocks of a script's lines.
use Rattle.std.proofs.lemmas.List.{take_more}
use Rattle.std.proofs.Common.{get_or, take, zero, ◌≡◌, ◌∙◌, sym, ap, subst, ℕ, ◌+◌, ◌<◌, ◌≤◌, suc, List, [], ◌∷◌, ◌++◌, length, length-append, Result, Ok, Err, IfOk, OnOk, arith}
use Rattle.std.proofs.lemmas.List.Elements.{All-nil, All-push}
use Rattle.sw_rows.specs.Header.{Column}
use Rattle.sw_query.specs.declared.query.Call.{Call}
use Rattle.sw_query.specs.declared.refusal.Refusal.{Refusal}
use Rattle.sw_lang.proofs.Known.Knowing.{learned_width}
use Rattle.sw_spine.specs.History.{CallsBelow}
use Rattle.sw_cli.specs.declared.script.TheConstants.{MOST_BLOCKS, MOST_CALLS}
use Rattle.sw_cli.specs.Script.{AllCallsBelow, AreBlocks, AreSound, Script, SoFar, all_blocks, calls_in, learning, so_far, whole}

-- one more block
pub calls_more_block : (bs : List (List Call)) (b : List Call) → calls_in (bs ++ b ∷ []) ≡ calls_in bs + length b
calls_more_block [] b = omega arith
calls_more_block (c ∷ bs) b = let more = calls_more_block bs b in omega arith

-- the first blocks have no more calls than all
pub calls_within : (n : ℕ) (bs : List (List Call)) → calls_in (take n bs) ≤ calls_in bs
calls_within zero bs = omega arith
calls_within (suc n) [] = omega arith
calls_within (suc n) (b ∷ bs) = let more = calls_within n bs in omega arith

-- the blocks up to one and that one
pub calls_at : (bs : List (List Call)) (i : ℕ) (b d : List Call) → i < length bs → b ≡ get_or bs i d → calls_in (take (i + 1) bs) ≡ calls_in (take i bs) + length b
calls_at bs i b d here is = ap calls_in (take_more bs i d here) ∙ calls_more_block (take i bs) (get_or bs i d) ∙ ap (λ (l : List Call). calls_in (take i bs) + length l) (sym is)

-- what all blocks are, where those so far are sound
pub all_sound : (n : ℕ) (p : SoFar) → AreSound n p → AreBlocks n (all_blocks p)
all_sound n p s =
    let count = calls_more_block p.closed p.last in
    let long = length-append p.closed (p.last ∷ []) in
    record {
      below = All-push (AllCallsBelow n) p.closed p.last s.below s.below_last;
      few = omega (arith, s.few, long);
      short = omega (arith, s.short, count);
    }

block_begins : (n : ℕ) (p : SoFar) → length p.closed + 1 < MOST_BLOCKS → AreSound n p → AreSound n (so_far p.columns (all_blocks p) [])
block_begins n p few s =
    let a = all_sound n p s in
    let long = length-append p.closed (p.last ∷ []) in
    record { wide = s.wide; below = a.below; below_last = All-nil (CallsBelow n); few = omega (arith, few, long); short = omega (arith, a.short) }

-- a block begins after those so far
pub block_sound : (n : ℕ) (columns : List Column) (closed items : List (List Call)) (last next : List Call) (p : SoFar) → so_far columns closed last ≡ p → items ≡ closed ++ last ∷ [] → next ≡ [] → length closed + 1 < MOST_BLOCKS → AreSound n p → AreSound n (so_far columns items next)
block_sound n columns closed items last next p is all none few s =
    let begins = block_begins n (so_far columns closed last) few (subst (AreSound n) (sym is) s) in
    rw (all, none) begins

-- one more call
pub call_sound : (n : ℕ) (p : SoFar) (c : Call) → calls_in p.closed + length p.last < MOST_CALLS → CallsBelow n c → AreSound n p → AreSound n (so_far p.columns p.closed (p.last ++ c ∷ []))
call_sound n p c few below s = record {
  wide = s.wide;
  below = s.below;
  below_last = All-push (CallsBelow n) p.last c s.below_last below;
  few = s.few;
  short = let long = length-append p.last (c ∷ []) in omega (arith, few, long);
}

-- one more call after those so far, where there was memory for it
pub added_sound : {A E : Type 0} (n : ℕ) (columns : List Column) (closed : List (List Call)) (last next : List Call) (p : SoFar) (c : Call) (r : Result A E) → so_far columns closed last ≡ p → OnOk r (next ≡ last ++ c ∷ []) → calls_in closed + length last < MOST_CALLS → CallsBelow n c → AreSound n p → OnOk r (AreSound n (so_far columns closed next))
added_sound n columns closed last next p c (Ok x) is more few below s =
    let call = call_sound n (so_far columns closed last) c few below (subst (AreSound n) (sym is) s) in
    rw more call
added_sound n columns closed last next p c (Err e) is more few below s = tt

-- the texts of a line become known
pub learning_sound : (n : ℕ) (p : SoFar) (line : List ℕ) → AreSound n p → AreSound n (learning p line)
learning_sound n p line s = record { wide = learned_width p.columns line ∙ s.wide; below = s.below; below_last = s.below_last; few = s.few; short = s.short }

-- the same of what is answered
pub closed_wide : {A : Type 0} (n : ℕ) (p : SoFar) (view : A → Script) (result : Result A Refusal) → AreSound n p → IfOk result (λ x. view x ≡ whole p) → IfOk result (λ x. length (view x).columns ≡ n)
closed_wide n p view (Ok x) s h = ap (λ (t : Script). length t.columns) h ∙ s.wide
closed_wide n p view (Err e) s h = tt

-- where the lines so far are sound, so are the blocks of what is answered
pub closed_sound : {A : Type 0} (n : ℕ) (p : SoFar) (view : A → Script) (result : Result A Refusal) → AreSound n p → IfOk result (λ x. view x ≡ whole p) → IfOk result (λ x. AreBlocks n (view x).blocks)
closed_sound n p view (Ok x) s h = subst (λ (t : Script). AreBlocks n t.blocks) (sym h) (all_sound n p s)
closed_sound n p view (Err e) s h = tt
