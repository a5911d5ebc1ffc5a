-- How the cause of a fault carries over from one kind of bytes to another.
use Rattle.std.proofs.Common.{◌≡◌, ℕ, List, Option, sym, subst}
use Rattle.ecr_model.specs.http.Fronts.{Lack, bad, too_long, open_}
use Rattle.ecr_http.specs.Faults.{IsFault, IsOpen}
use Rattle.ecr_http.specs.declared.fault.Fault.{Fault}
use Rattle.ecr_http.specs.declared.fault.Fault.TheVariants as faults

-- bytes that lack Q wherever they lack P have the fault by Q too
pub IsFault-weaker : (P Q : Lack → Type 0) (left : Option (List ℕ)) (total : ℕ) (fault : Fault)
    → ((lack : Lack) → P lack → Q lack) → IsFault P left total fault → IsFault Q left total fault
IsFault-weaker P Q left total faults.Ended on f = (on open_ f.0, f.1, f.2)
IsFault-weaker P Q left total faults.ReadFault on f = (on open_ f.0, f.1)
IsFault-weaker P Q left total faults.WriteFault on f = f
IsFault-weaker P Q left total faults.Spent on f = (on open_ f.0, f.1)
IsFault-weaker P Q left total faults.Mem on f = tt
IsFault-weaker P Q left total faults.Bad on f = on bad f
IsFault-weaker P Q left total (faults.TooLong section limit) on f = on (too_long section limit) f

-- a read failed where more bytes are needed
pub IsFault-open : (Q : Lack → Type 0) (left : Option (List ℕ)) (total : ℕ) (fault : Fault)
    → Q open_ → IsFault IsOpen left total fault → IsFault Q left total fault
IsFault-open Q left total fault less f =
    IsFault-weaker IsOpen Q left total fault (λ lack is. subst Q (sym is) less) f

-- a fault of the bytes or of the source is none of a sink
pub IsFault-no_write : (P : Lack → Type 0) (left : Option (List ℕ)) (total : ℕ) (fault : Fault)
    → IsFault P left total fault → fault ≡ faults.WriteFault → ⊥
IsFault-no_write P left total fault f is = subst (λ (x : Fault). IsFault P left total x) is f
