-- Text as the bytes of its characters, all of them ASCII here.
use Rattle.std.specs.Prelude.{List, [], ◌∷◌, ℕ}
use Prim.Native.Char.{code}
use Prim.Native.String.{String}

abbrev pub ascii : String → List ℕ
ascii String.[] = []
ascii (String.◌∷◌ c cs) = code c ∷ ascii cs
