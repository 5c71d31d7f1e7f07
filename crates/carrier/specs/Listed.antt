-- What a short list holds.
use Rattle.std.specs.Prelude.{ℕ, List, take}
use Rattle.carrier.specs.declared.short_list.ShortList.{ShortList}

-- its entries, in order
abbrev pub listed : {T : Type 0} {N : ℕ} → ShortList T N → List T
listed l = take l.len l.places
