-- What a lent list holds after a call: "entries beyond those named keep their contents".
use Rattle.std.specs.Prelude.{List, ◌++◌, length, drop}

-- the list holds xs first, and keeps its contents beyond
unfoldable pub written : {A : Type 0} → List A → List A → List A
written xs old = xs ++ drop (length xs) old
