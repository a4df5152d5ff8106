-- The family of a format: its packets, with a record of its own.
use Rattle.reading.specs.Reading.{Model, Laws}
use Rattle.oxts.specs.declared.format.Format.{Format}
use Rattle.oxts.specs.declared.format.Format.TheVariants.{Ncom as ncom, Mcom as mcom}
use Rattle.oxts_judge.specs.Lawful.{oxts_laws}
use Rattle.oxts_judge.specs.Models.{oxts_model}
use Rattle.oxts_record.specs.declared.family.NcomFormat.{NcomFormat}
use Rattle.oxts_record.specs.declared.family.McomFormat.{McomFormat}
use Rattle.oxts_record.specs.declared.record.Record.{Record}
use Rattle.oxts_record.specs.Records.{first_record, record_after}

abbrev pub family_model : {M : Type 0} → Format → Model (Record M)
family_model f = oxts_model f first_record (record_after f)

pub family_laws : {M : Type 0} → (f : Format) → Laws (family_model {M = M} f)
family_laws f = oxts_laws f first_record (record_after f)

abbrev pub ncom_model : Model (Record NcomFormat)
ncom_model = family_model ncom

abbrev pub mcom_model : Model (Record McomFormat)
mcom_model = family_model mcom

pub ncom_laws : Laws ncom_model
ncom_laws = family_laws ncom

pub mcom_laws : Laws mcom_model
mcom_laws = family_laws mcom
