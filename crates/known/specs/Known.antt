-- Streams, words, lines and fields whose results are known beforehand.
use Rattle.std.specs.Prelude.{◌≡◌, ℕ, List, [], ◌∷◌, ◌++◌, take, replicate, pos, negsuc, Some, Ok, Err}
use Rattle.reading.specs.declared.message.Kind.{Kind}
use Rattle.reading.specs.declared.message.Kind.TheVariants.{Inertial, Solution, Status, Passed, Fault}
use Rattle.reading.specs.declared.message.Message.{Message}
use Rattle.reading.specs.Reading.{Model, reading}
use Rattle.reading.specs.declared.counts.Counts.{Counts}
use Rattle.reader.specs.Standing.{counts_of}
use Rattle.line.specs.Lines.{contents}
use Rattle.oxts.specs.declared.format.Format.TheVariants.{Ncom, Mcom}
use Rattle.oxts.specs.Words.{signed24}
use Rattle.oxts_fields.specs.declared.refusal.Refusal.TheVariants.{NotValid}
use Rattle.oxts_fields.specs.Fields.{field_asked}
use Rattle.oxts_record.specs.Families.{ncom_model, mcom_model}
use Rattle.oxts_record.specs.Questions.{time_from}

-- a message whose quantities are all 0: kind, number, place and code
abbrev pub blank : Kind → ℕ → ℕ → ℕ → Message
blank k n p c = record { kind = k; number = n; place = p; code = c; quantities = replicate 9 (pos 0) }

-- a fault: number, place, cause, byte found and value expected
abbrev pub fault : ℕ → ℕ → ℕ → ℕ → ℕ → Message
fault n p c found expected =
    record { kind = Fault; number = n; place = p; code = c; quantities = pos found ∷ pos expected ∷ replicate 7 (pos 0) }

-- pumped, accepted, skipped, held; whole, passed, faults, messages
abbrev pub counted : ℕ → ℕ → ℕ → ℕ → ℕ → ℕ → ℕ → ℕ → Counts
counted p a s h w q f m =
    record { pumped = p; accepted = a; skipped = s; held = h; whole = w; passed = q; faults = f; messages = m }

-- The reading of bs has just these messages and counts.
pub record Reads {R : Type 0} (m : Model R) (bs : List ℕ) (ms : List Message) (c : Counts) : Type 0 where
  pub messages : (reading m bs).tally.messages ≡ ms
  pub counts : counts_of m bs ≡ c

-- 0xE7, twenty zeros and status 11, then 49 zeros and a last byte
abbrev pub structure_b : ℕ → List ℕ
structure_b last = 231 ∷ replicate 20 0 ++ (11 ∷ replicate 49 0 ++ (last ∷ []))

-- carrier frames: filler, one of two content bytes and one of one
abbrev pub carried : List ℕ
carried = 0 ∷ 2 ∷ 170 ∷ 187 ∷ 1 ∷ 204 ∷ []

pub record Known : Type 0 where
  -- 0xE7 and 71 zeros are one whole NCOM packet of status 0, and 83 zeros one of MCOM
  pub zeros : Reads ncom_model (231 ∷ replicate 71 0) (blank Inertial 1 0 0 ∷ blank Solution 2 0 0 ∷ blank Status 3 0 0 ∷ []) (counted 72 72 0 0 1 0 0 3)
  pub marine_zeros : Reads mcom_model (231 ∷ replicate 83 0) (blank Inertial 1 0 0 ∷ blank Solution 2 0 0 ∷ blank Status 3 0 0 ∷ []) (counted 84 84 0 0 1 0 0 3)
  -- its first 22 bytes are all held
  pub front : Reads ncom_model (231 ∷ replicate 21 0) [] (counted 22 0 0 22 0 0 0 0)
  -- with a sync byte too many, the first is skipped and the packet found behind it
  pub twice : Reads ncom_model (231 ∷ 231 ∷ replicate 71 0) (fault 1 0 2 0 231 ∷ blank Inertial 2 1 0 ∷ blank Solution 3 1 0 ∷ blank Status 4 1 0 ∷ []) (counted 73 72 1 0 1 0 1 4)
  -- the second checksum is wrong
  pub solution : Reads ncom_model (231 ∷ replicate 22 0 ++ (1 ∷ replicate 38 0)) (blank Inertial 1 0 0 ∷ fault 2 0 3 0 1 ∷ []) (counted 62 0 62 0 0 0 1 2)
  -- status 8 is reserved
  pub status : Reads ncom_model (231 ∷ replicate 20 0 ++ (8 ∷ [])) (fault 1 0 1 8 0 ∷ []) (counted 22 0 22 0 0 0 1 1)
  -- structure-B is passed over if its last byte is right
  pub passed : Reads ncom_model (structure_b 11) (blank Passed 1 0 0 ∷ []) (counted 72 72 0 0 1 1 0 1)
  pub damaged : Reads ncom_model (structure_b 0) (fault 1 0 4 0 11 ∷ []) (counted 72 0 72 0 0 0 1 1)
  -- signed 24-bit words, lowest byte first
  pub least : signed24 0 0 128 ≡ negsuc 8388607
  pub most : signed24 255 255 127 ≡ pos 8388607
  pub minus_one : signed24 255 255 255 ≡ negsuc 0
  -- what an opener lets through, and a meter with a credit of 2 over it
  pub opened : contents 0 carried ≡ 170 ∷ 187 ∷ 204 ∷ []
  pub metered : take 2 (contents 0 carried) ≡ 170 ∷ 187 ∷ []
  -- the offset of UTC in channel 16 is valid where bit 0 is set, and signed
  pub offset : field_asked Ncom 16 4 (Some (replicate 7 0 ++ (225 ∷ []))) ≡ Ok (negsuc 15)
  pub no_offset : field_asked Ncom 16 4 (Some (replicate 7 0 ++ (224 ∷ []))) ≡ Err NotValid
  -- the undulation in channel 48 is signed, and its pattern 0xFFFF is not valid
  pub undulation : field_asked Mcom 48 0 (Some (254 ∷ 255 ∷ replicate 6 0)) ≡ Ok (negsuc 1)
  pub no_undulation : field_asked Mcom 48 0 (Some (255 ∷ 255 ∷ replicate 6 0)) ≡ Err NotValid
  -- minutes 1,000 with time 59,999, and minutes 999
  pub full_time : time_from 1000 4 (Some 59999) ≡ Ok 60059999
  pub no_full_time : time_from 999 4 (Some 59999) ≡ Err NotValid
