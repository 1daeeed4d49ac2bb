use Rattle.std.proofs.Common.{◌≡◌, ◌+◌, ◌++◌, ℕ, List, drop, length}
use Rattle.sw_rows.specs.Groups.{AreAllSeen}
use Rattle.sw_rows.specs.Domains.{under}
use Rattle.sw_rows.specs.Header.{kinds_of}
use Rattle.sw_rows.specs.Tables.{rows_after, texts_in}
use Rattle.sw_rows.specs.Texts.{with_texts}
use Rattle.sw_rows.proofs.table.read_group.Given as goal

abbrev pub invariant-loop-place : goal.invariant-loop-place
invariant-loop-place l = let ds = kinds_of l.columns in
    let seen = λ (more : List (List ℕ)). under (with_texts l.initial.texts (texts_in ds l.group ++ more)) ds in
    record {
      codes : AreAllSeen l.texts l.group l.seen;
      count : length l.rows.items ≡ length l.initial.rows.items + l.place;
      width : l.rows.width ≡ l.initial.rows.width;
      texts : with_texts l.texts (texts_in ds (drop l.place l.group)) ≡ with_texts l.initial.texts (texts_in ds l.group);
      left : (more : List (List ℕ)) → rows_after (seen more) l.rows.items (drop l.place l.group) ≡ rows_after (seen more) l.initial.rows.items l.group;
    }
