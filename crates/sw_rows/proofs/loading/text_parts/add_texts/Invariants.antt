use Rattle.std.proofs.Common.{◌≡◌, take, length}
use Rattle.sw_rows.specs.Parts.{AreCodes}
use Rattle.sw_rows.specs.Texts.{with_texts}
use Rattle.sw_rows.proofs.loading.text_parts.add_texts.Given as goal

abbrev pub invariant-loop-place : goal.invariant-loop-place
invariant-loop-place l = record {
  texts : l.texts ≡ with_texts l.initial.texts (take l.place l.more);
  codes : AreCodes (take l.place l.more) l.texts l.codes.items;
  count : length l.codes.items ≡ l.place;
}
