-- What one entry more, an insertion or a removal, leaves of a lawful area.
use Rattle.std.proofs.Common.{◌≡◌, ℕ, ◌<◌, ◌≤◌, ◌^◌, ℤ, true, List, [], ◌∷◌, ◌++◌, length, get_or, sym, arith, subst, All, Option}
use Rattle.std.proofs.lemmas.List.{length-append}
use Rattle.std.proofs.lemmas.List.Elements.{All-append}
use Rattle.sw_table.specs.declared.row.Row.{Row}
use Rattle.sw_table.specs.declared.row.Update.{Update}
use Rattle.sw_table.specs.declared.row.Update.TheVariants.{Insert}
use Rattle.sw_kernel.specs.Arrangement.{joined}
use Rattle.sw_kernel.specs.Replay.{Step, inserted, removed}
use Rattle.sw_kernel.specs.Tapes.{brought}
use Rattle.sw_map.specs.Held.{Held}
use Rattle.sw_map.specs.Lawful.{rows_by}
use Rattle.sw_map.proofs.Replays.{lawful-longer}
use Rattle.sw_set.specs.Shelf.{IsAreaLawful, MayReceive, Rises, key_of, lies_within, logged_rows}
use Rattle.sw_set.proofs.Areas.Longer.{all-without, brought-inserted, brought-removed, keys-inserted, keys-removed, logged-all, logged-inserted, logged-removed, place-counted, rises-last, rises-without, tape-inserted, tape-removed}
use Rattle.sw_set.proofs.Areas.Receiving.{all-one}
use Rattle.sw_set.proofs.Areas.Shelves.{area_of}

short-more : (tape : List (Step Row)) (e : Step Row) → length tape < 4096 → length (tape ++ e ∷ []) ≤ 4096
short-more tape e room = let n = length-append tape (e ∷ []) in omega (arith, n, room)

-- with nothing waiting and room on the tape, a row that may be received is logged and the area stays lawful
pub area-inserted : (a : ℕ) (f b : Option ℤ) (inb : List Update) (sp : ℕ) (tape : List (Step Row)) (ms : List Held) (r : Row) → inb ≡ [] → length tape < 4096 → MayReceive a f b (brought tape) (logged_rows a tape) (Insert r) → IsAreaLawful (area_of a f b inb sp tape ms) → IsAreaLawful (area_of a f b inb sp (tape ++ inserted r ∷ []) ms)
area-inserted a f b inb sp tape ms r none room may w =
    let same = logged-inserted a tape r in
    record {
      attribute = w.attribute;
      tape = tape-inserted tape r w.tape;
      short = short-more tape (inserted r) room;
      keys = keys-inserted tape r may.1 w.keys;
      brought_rise = subst (Rises key_of) (sym (brought-inserted tape r)) (rises-last key_of (brought tape) r w.brought_rise may.0);
      rows_rise = subst (Rises key_of) (sym same) (rises-last key_of (logged_rows a tape) r w.rows_rise (logged-all (λ (c : Row). c.key < r.key) a tape may.0));
      rows_fit = subst (λ (v : List Row). All (λ (c : Row). c.key < 2 ^ 63) v) (sym same) (All-append (λ (c : Row). c.key < 2 ^ 63) (logged_rows a tape) (r ∷ []) w.rows_fit (all-one (λ (c : Row). c.key < 2 ^ 63) r may.1));
      within = subst (λ (v : List Row). All (λ (c : Row). lies_within a f b c ≡ true) v) (sym same) (All-append (λ (c : Row). lies_within a f b c ≡ true) (logged_rows a tape) (r ∷ []) w.within (all-one (λ (c : Row). lies_within a f b c ≡ true) r may.2));
      boxes = λ k d lt. lawful-longer a tape (inserted r ∷ []) _ (w.boxes k d lt);
      leases = w.leases;
      apart = w.apart;
      receivable = rw none tt;
    }

-- with nothing waiting and room on the tape, the removal of a row is logged and the area stays lawful
pub area-removal : (a : ℕ) (f b : Option ℤ) (inb : List Update) (sp : ℕ) (tape : List (Step Row)) (ms : List Held) (k place : ℕ) → inb ≡ [] → length tape < 4096 → place < length (joined (rows_by a tape)) → ((d : Row) → (get_or (joined (rows_by a tape)) place d).key ≡ k) → IsAreaLawful (area_of a f b inb sp tape ms) → IsAreaLawful (area_of a f b inb sp (tape ++ removed place ∷ []) ms)
area-removal a f b inb sp tape ms k place none room within own w =
    let same = logged-removed a tape place k within own in
    record {
      attribute = w.attribute;
      tape = tape-removed tape place w.tape (place-counted a tape place w.tape within);
      short = short-more tape (removed place) room;
      keys = keys-removed tape place w.keys;
      brought_rise = subst (Rises key_of) (sym (brought-removed tape place)) w.brought_rise;
      rows_rise = subst (Rises key_of) (sym same) (rises-without k (logged_rows a tape) w.rows_rise);
      rows_fit = subst (λ (v : List Row). All (λ (c : Row). c.key < 2 ^ 63) v) (sym same) (all-without (λ (c : Row). c.key < 2 ^ 63) k (logged_rows a tape) w.rows_fit);
      within = subst (λ (v : List Row). All (λ (c : Row). lies_within a f b c ≡ true) v) (sym same) (all-without (λ (c : Row). lies_within a f b c ≡ true) k (logged_rows a tape) w.within);
      boxes = λ j d lt. lawful-longer a tape (removed place ∷ []) _ (w.boxes j d lt);
      leases = w.leases;
      apart = w.apart;
      receivable = rw none tt;
    }
