-- The station's variables, as the struct has them, and what a call leaves of a station.
use Rattle.std.specs.Prelude.{◌≡◌}
use Rattle.carrier.specs.Meaning.{Meaning}
use Rattle.agreement.specs.Calls.{Made}
use Rattle.agreement.specs.Station.{Vars, call_step}
use Rattle.station.specs.declared.station.Station.{Station}

abbrev pub vars : {C : Type 0} → Station C → Vars
vars s = record { toggle = s.toggle; item = s.item; since = s.since }

-- the variables step with the call, and the service number stays
pub record Leaves {C S : Type 0} (m : Meaning S) (old new : Station C) (call : Made) : Type 0 where
  pub vars : vars new ≡ call_step m (vars old) call
  pub service : new.service ≡ old.service
