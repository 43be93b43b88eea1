-- What the lines that the code reads mean.
use Rattle.std.specs.Prelude.{List, ℕ, drop}
use Rattle.ctx_session.specs.Script as script
use Rattle.ctx_session.specs.declared.line.Line.{Line as Read}
use Rattle.ctx_session.specs.declared.line.Line.TheVariants.{Open, Use, Close, Down}

-- a line of these octets: a text is what follows `use `, 36 octets and a space
abbrev pub line_meant : List ℕ → Read → script.Line
line_meant octets (Open client id) = script.Open client id
line_meant octets (Use id) = script.Use id (drop 41 octets)
line_meant octets (Close id) = script.Close id
line_meant octets (Down client) = script.Down client
