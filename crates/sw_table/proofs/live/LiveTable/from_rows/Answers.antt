use Rattle.std.proofs.Common.{◌≡◌, ◌+◌, ◌<◌, ◌≤◌, ◌++◌, ◌∷◌, ◌∙◌, [], ap, sym, ℕ, Bool, List, true, get_or, length, replicate, take, arith}
use Rattle.std.proofs.lemmas.List.{length-take-le, replicate_more, take_all, take_more}
use Rattle.sw_table.specs.declared.row.Row.{Row}
use Rattle.sw_table.specs.Live.{Living, all_live, last_key}
use Rattle.sw_table.proofs.Standing.{last-less, last-more}
use Rattle.sw_table.proofs.live.LiveTable.from_rows.Goals as goal

abbrev none : Row
none = record { key = 0; cells = [] }

pub insert-requires : goal.insert-requires
insert-requires c =
    let rows = c.args.rows.now.items in let i = c.loop-place.place in
    let lt : i < length rows = omega (arith, c.loop-place-test.true, c.len-place-end.ensures.many) in
    let top : c.loop-place.table.top ≡ last_key 0 (take i rows) = ap (λ (v : Living). v.top) c.loop-place.invariant in
    let key : c.get.result.key ≡ (get_or rows i none).key = ap (λ (r : Row). r.key) (c.get.ensures none) in
    let less = last-less 0 rows i none c.requires lt in
    omega (arith, top, key, less)

-- one flag more for the rows taken
flags-more : (rows : List Row) (i : ℕ) → i < length rows → replicate (length (take i rows)) true ++ true ∷ [] ≡ replicate (length (take (i + 1) rows)) true
flags-more rows i lt =
    replicate_more (length (take i rows)) true
    ∙ ap (λ n. replicate n true) (ap (λ n. n + 1) (length-take-le i rows (omega (arith, lt))) ∙ sym (length-take-le (i + 1) rows (omega (arith, lt))))

pub loop-place-preserved : goal.loop-place-preserved
loop-place-preserved c =
    let rows = c.args.rows.now.items in let i = c.loop-place.place in let row = c.get.result in
    let lt : i < length rows = omega (arith, c.loop-place-test.true, c.len-place-end.ensures.many) in
    let is : row ≡ get_or rows i none = c.get.ensures none in
    let more : c.loop-place.table.came ++ row ∷ [] ≡ take (i + 1) rows =
    ap (λ (v : Living). v.came ++ row ∷ []) c.loop-place.invariant ∙ ap (λ (r : Row). take i rows ++ r ∷ []) is ∙ sym (take_more rows i none lt) in
    let flags : c.loop-place.table.live ++ true ∷ [] ≡ replicate (length (take (i + 1) rows)) true = ap (λ (v : Living). v.live ++ true ∷ []) c.loop-place.invariant ∙ flags-more rows i lt in
    let top : row.key ≡ last_key 0 (take (i + 1) rows) = ap (λ (r : Row). r.key) is ∙ sym (last-more 0 rows i none lt) in
    c.in_ok-insert.ensures.ok
    ∙ ap (λ (v : List Row). let t : Living = record { top = row.key; came = v; live = c.loop-place.table.live ++ true ∷ [] } in t) more
    ∙ ap (λ (v : List Bool). let t : Living = record { top = row.key; came = take (i + 1) rows; live = v } in t) flags
    ∙ ap (λ (k : ℕ). let t : Living = record { top = k; came = take (i + 1) rows; live = replicate (length (take (i + 1) rows)) true } in t) top

pub returns : goal.returns
returns c =
    let rows = c.args.rows.now.items in
    let le : length rows ≤ c.loop-place.place = omega (arith, c.loop-place-test.false, c.len-place-end.ensures.many) in
    c.loop-place.invariant ∙ ap all_live (take_all c.loop-place.place rows le)
