-- The rules for a board's declarations.
--     HasLawfulDecls      each declaration follows its rules
use Rattle.lists.specs.Elements.{Each}
use Rattle.model_registers.specs.DeclarationRules.{IsLawfulEndpoint, IsLawfulBridge}
use Rattle.model_board.specs.Board.{Decl, endpoint, bridge, Board}

abbrev pub IsLawfulDecl : Decl → Type 0
IsLawfulDecl (endpoint d) = IsLawfulEndpoint d
IsLawfulDecl (bridge d) = IsLawfulBridge d

abbrev pub HasLawfulDecls : Board → Type 0
HasLawfulDecls b = Each (λ r. IsLawfulDecl r.decl) b
