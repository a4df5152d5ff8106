-- The packets of a reading are those of the manuals, and make the record.
use Rattle.std.proofs.Common.{◌≡◌, ℕ, ◌⊎◌, List, [], ◌∷◌, length, take, drop, refl, ap, ◌∙◌, subst, inl, inr, ⊎_elim}
use Rattle.reading.specs.declared.message.Body.{Body}
use Rattle.reading.specs.Keeps.{Each, Found, Keeps, record_of}
use Rattle.reading.specs.Reading.{Packet, reading}
use Rattle.oxts.specs.declared.format.Format.{Format}
use Rattle.oxts_judge.specs.Lawful.{oxts_in_turn}
use Rattle.oxts_judge.specs.Packets.{StructureAPacket, StructureBPacket, Begins, AcceptsPackets}
use Rattle.oxts_record.specs.declared.record.Record.{Record}
use Rattle.oxts_record.specs.Families.{family_model}
use Rattle.oxts_record.specs.Heard.{navigation_of}
use Rattle.oxts_record.specs.Readings.{bytes_of, Described, ReadsFormat}
use Rattle.oxts_record.specs.Records.{first_record, record_after}

-- the packet that begins there is described
described_at : (f : Format) (rest : List ℕ) (n : ℕ) (b : Body) → Begins f rest n b → StructureAPacket f (take n rest) ⊎ StructureBPacket f (take n rest)
described_at f rest n b s = ⊎_elim (λ a. inl a.0) (λ a. inr a.0) s.packet

module _ {M : Type 0} (f : Format) (manual : AcceptsPackets (Record M)) where
  described : (bs : List ℕ) (p : Packet) → Found (family_model {M = M} f) bs p → Described f p
  described bs p found =
      subst (λ xs. StructureAPacket f xs ⊎ StructureBPacket f xs) found.bytes
      (described_at f (drop p.place bs) (length p.bytes) found.body (manual.only f first_record (record_after f) (drop p.place bs) (length p.bytes) found.body found.accepted))

  all_described : (bs : List ℕ) (ps : List Packet) → Each (Found (family_model {M = M} f) bs) ps → Each (Described f) ps
  all_described bs [] h = tt
  all_described bs (p ∷ ps) h = (described bs p h.0, all_described bs ps h.1)

  made_by : (r : Record M) (ps : List Packet) → (record_of (family_model {M = M} f) r ps).navigation ≡ navigation_of f r.navigation (bytes_of ps)
  made_by r [] = refl
  made_by r (p ∷ ps) = made_by (record_after f r p.bytes) ps

  pub reads_format : Keeps (family_model {M = M} f) → ReadsFormat f (family_model {M = M} f)
  reads_format keeps =
      let m = family_model {M = M} f in
      record {
        packets = λ bs. all_described bs (reading m bs).tally.packets (keeps.found bs);
        made = λ bs. ap (λ r. r.navigation) (keeps.made bs) ∙ made_by first_record (reading m bs).tally.packets;
        whole = keeps.whole_told (oxts_in_turn f);
        passed = keeps.passed_told (oxts_in_turn f);
      }
