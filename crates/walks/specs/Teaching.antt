-- That code keeps its contract, as the ties state it. Assumes nothing.
use Rattle.std.specs.Prelude.{◌≡◌, List, ℕ}
use mir.Syntax.{Callee}
use prog.Routine.{Env}
use prog.Wired.{Code, Wired}
use borrow.Fn.Kinds.{ParamKind, ResultKind, In, Out}
use borrow.Fn.World.{World}
use borrow.Fn.Plain.{Known}
use borrow.Fn.Run.{Over}

-- In every model of the machine in whose environment the code stands, with that of all that it names (`Wired`), whoever calls the function, by whatever
-- name, and has shown what is asked, learns what is said of the result. It has n lifetimes. That the environment of a program or a static library has
-- the code of all that is linked in it, the toolchain proves when it makes one.
abbrev pub Teaches : (n : ℕ) (ps : List (ParamKind n)) (r : ResultKind n) → In n ps → Out n ps r → Code → Callee → Type 2
Teaches n ps r asked learnt code name =
    (w : World) → Wired w.𝓡.env code → (names : Env) (k : Callee) → names k ≡ w.𝓡.env name
    → Known w.𝓛 (Over w.𝓛 w.𝓜 w.𝓡 names) n ps r asked learnt k
