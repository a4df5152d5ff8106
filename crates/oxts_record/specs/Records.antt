-- The record of a packet family, which has a mark of the family beside the navigation.
use Rattle.std.specs.Prelude.{ℕ, List}
use Rattle.oxts.specs.declared.format.Format.{Format}
use Rattle.oxts_record.specs.declared.record.Record.{Record}
use Rattle.oxts_record.specs.Navigations.{first_navigation, navigation_after}

abbrev pub first_record : {M : Type 0} → Record M
first_record = record { of = record {}; navigation = first_navigation }

abbrev pub record_after : {M : Type 0} → Format → Record M → List ℕ → Record M
record_after f r p = record { of = r.of; navigation = navigation_after f r.navigation p }
