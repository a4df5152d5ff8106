-- What a structure-A packet makes of the latest status, time and quantities.
use Rattle.std.specs.Prelude.{ℕ, true, false, cond, List, pos, Some, None, ◌==◌}
use Rattle.oxts.specs.declared.batches.Solution.{Solution}
use Rattle.oxts.specs.declared.batches.Vector.{Vector}
use Rattle.oxts.specs.Batches.{inertial_in, solution_in}
use Rattle.oxts_record.specs.declared.snapshot.Snapshot.{Snapshot}

abbrev pub zero_vector : Vector
zero_vector = record { x = pos 0; y = pos 0; z = pos 0 }

abbrev pub zero_solution : Solution
zero_solution = record { latitude = pos 0; longitude = pos 0; altitude = 0; velocity = zero_vector; attitude = zero_vector }

abbrev pub first_snapshot : Snapshot
first_snapshot =
    record {
      status = 0;
      time = None;
      inertial_valid = false;
      solution_valid = false;
      accelerations = zero_vector;
      rates = zero_vector;
      solution = zero_solution;
    }

-- status 0: nothing is valid, and the rest stays
abbrev pub nothing_valid : Snapshot → Snapshot
nothing_valid s =
    record {
      status = 0;
      time = s.time;
      inertial_valid = false;
      solution_valid = false;
      accelerations = s.accelerations;
      rates = s.rates;
      solution = s.solution;
    }

-- status 1: accelerations and rates are valid, there is no time, and the solution stays without being valid
abbrev pub inertial_taken : Snapshot → List ℕ → Snapshot
inertial_taken s p =
    record {
      status = 1;
      time = None;
      inertial_valid = true;
      solution_valid = false;
      accelerations = (inertial_in p).accelerations;
      rates = (inertial_in p).rates;
      solution = s.solution;
    }

-- any other status n: all is taken from the packet, and valid
abbrev pub all_taken : ℕ → List ℕ → Snapshot
all_taken n p =
    record {
      status = n;
      time = Some (inertial_in p).time;
      inertial_valid = true;
      solution_valid = true;
      accelerations = (inertial_in p).accelerations;
      rates = (inertial_in p).rates;
      solution = solution_in p;
    }

abbrev pub snapshot_after : ℕ → Snapshot → List ℕ → Snapshot
snapshot_after n s p = cond (n == 0) (nothing_valid s) (cond (n == 1) (inertial_taken s p) (all_taken n p))
