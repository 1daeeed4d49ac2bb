use Rattle.std.proofs.Common.{◌≡◌, ◌≤◌, ℕ, pos, drop, take, get_or, length, []}
use Rattle.sw_rows.specs.Header.{kinds_of}
use Rattle.sw_lang.specs.Reading.{values_at}
use Rattle.sw_lang.specs.Tokens.{tokens}
use Rattle.sw_lang.proofs.reading.parse.cells_at.Given as goal

abbrev pub invariant-loop-attr : goal.invariant-loop-attr
invariant-loop-attr l = record {
  eight : length l.cells ≡ 8;
  rest : (k : ℕ) → l.attr ≤ k → get_or l.cells k (pos 0) ≡ pos 0;
  read : values_at (take l.attr l.cells) (drop l.attr (kinds_of l.schema)) (tokens l.rest) ≡ values_at [] (kinds_of l.schema) (tokens l.text);
}
