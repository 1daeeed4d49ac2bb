-- What is left to come, once a block was taken in.
use Rattle.std.proofs.Common.{◌≡◌, ◌∙◌, ap, sym, ℕ, Bool, false, cond, List, [], ◌++◌}
use Rattle.sw_headers.specs.declared.header.Header.{Header}
use Rattle.sw_headers.specs.declared.rewriting.Place.{Place}
use Rattle.sw_headers.specs.declared.source.Under.{Under}
use Rattle.sw_headers.specs.Left.{left_under}
use Rattle.sw_headers.specs.Steps.{by, goes_by, going_on, place_after, rewritten_from, waiting}
use Rattle.sw_headers.proofs.AsItIs.{goes_on}

-- what goes on of the rest of a text, behind what waits
abbrev later : Header → Place → List ℕ → Bool → List ℕ → List ℕ
later h p block over text = cond over [] (cond (goes_by h.keeps.items p) text (rewritten_from h.record.items h.keeps.items p (block ++ text)))

-- a block was taken in
pub block_taken : (old new : Under) → waiting old.rewriter ≡ [] → old.is_over ≡ false → goes_by old.rewriter.header.keeps.items old.rewriter.place ≡ false
    → new.rewriter.header ≡ old.rewriter.header → new.rewriter.place ≡ by place_after old.rewriter old.block.items
    → waiting new.rewriter ≡ by going_on old.rewriter old.block.items → new.block.items ≡ [] → new.is_over ≡ false
    → (text : List ℕ) → left_under new text ≡ left_under old text
block_taken old new none more steps header place went block over text =
    let h = old.rewriter.header in
    let p = old.rewriter.place in
    let q = new.rewriter.place in
    let ready = by going_on old.rewriter old.block.items in
    ap (λ w. w ++ later new.rewriter.header q new.block.items new.is_over text) went
    ∙ ap (λ k. ready ++ later k q new.block.items new.is_over text) header
    ∙ ap (λ k. ready ++ later h k new.block.items new.is_over text) place
    ∙ ap (λ k. ready ++ later h (by place_after old.rewriter old.block.items) k new.is_over text) block
    ∙ ap (λ k. ready ++ later h (by place_after old.rewriter old.block.items) [] k text) over
    ∙ goes_on h.record.items h.keeps.items p old.block.items text steps
    ∙ sym (ap (λ b. cond b text (by rewritten_from old.rewriter (old.block.items ++ text))) steps)
    ∙ sym (ap (λ b. later h p old.block.items b text) more)
    ∙ sym (ap (λ w. w ++ later h p old.block.items old.is_over text) none)
