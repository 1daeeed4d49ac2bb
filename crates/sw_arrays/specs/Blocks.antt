-- Rows of a reply in a caller's block.
use Rattle.std.specs.Prelude.{ℕ, ℤ, pos, List, ◌++◌, length, map, take, drop, min, slice_index_or}
use Rattle.sw_query.specs.declared.reply.ReplyRow.{ReplyRow}

-- how many of these a block has room for
abbrev pub many_in : {A : Type 0} → List A → List A → ℕ
many_in xs block = min (length xs) (length block)

-- a block with as many of these at its front as it has room for
abbrev pub filled : {A : Type 0} → List A → List A → List A
filled xs block = take (length block) xs ++ drop (length xs) block

-- the keys of rows, and their cells in a column
abbrev pub keys_in : List ReplyRow → List ℕ
keys_in rows = map (λ r. r.key) rows

abbrev pub column_in : ℕ → List ReplyRow → List ℤ
column_in column rows = map (λ r. slice_index_or r.cells column (pos 0)) rows
