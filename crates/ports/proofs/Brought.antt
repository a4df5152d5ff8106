-- A message is brought to one port of the row after another.
use Rattle.std.proofs.Common.{◌≡◌, ℕ, ◌+◌, ◌^◌, ◌<◌, List, map, length, get_or, take, drop, set, arith, length-set, get_or-drop, drop-drop, drop-set-lt, sym, ◌∙◌}
use Rattle.std.proofs.lemmas.Grind.{common_steps}
use Rattle.std.proofs.lemmas.List.{get_or-map, take_more, take_more_set, map_push}
use Rattle.reading.specs.declared.message.Message.{Message}
use Rattle.law.specs.Slots.{shut, arrived, published_to}
use Rattle.ports.specs.declared.port.Port.{Port}
use Rattle.ports.specs.Ports.{slot_of, Room, most_missed}
use Rattle.ports.proofs.Misses.{most_at}

-- A message was brought to the first i ports of the row.
pub record ReachedSoFar (m : Message) (was row : List Port) (i : ℕ) : Type 0 where
  pub front : map slot_of (take i row) ≡ published_to (map slot_of (take i was)) m
  pub back : drop i row ≡ drop i was
  pub long : length row ≡ length was

same_item : (was row : List Port) (i : ℕ) (d : Port) → drop i row ≡ drop i was → get_or row i d ≡ get_or was i d
same_item was row i d e = grind (arith, get_or-drop i row 0 d, get_or-drop i was 0 d, e)

pub reached_room : {m : Message} {was row : List Port} {i : ℕ} → ReachedSoFar m was row i → (d : Port) → i < length row → most_missed (map slot_of was) + 1 < 2 ^ 64 → Room (get_or row i d)
reached_room {m} {was} {row} {i} so d within rooms =
    let within-was : i < length was = rw (sym so.long) within in
    let same = same_item was row i d so.back in
    let most = most_at (map slot_of was) i in
    grind (arith, get_or-map slot_of was i d shut within-was)

pub reached_more : {m : Message} {was row : List Port} {i : ℕ} → ReachedSoFar m was row i → (d y : Port) → i < length row
    → slot_of y ≡ arrived (slot_of (get_or row i d)) m → ReachedSoFar m was (set row i y) (i + 1)
reached_more {m} {was} {row} {i} so d y within e =
    let within-was : i < length was = rw (sym so.long) within in
    let same = same_item was row i d so.back in
    record {
      front = grind (arith, common_steps, take_more_set row i y within, map_push, take_more was i d within-was);
      back = grind (arith, common_steps, drop-drop, drop-set-lt);
      long = length-set row i y ∙ so.long;
    }
