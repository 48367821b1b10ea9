-- The pin on bus 0 that an interrupt pin reaches: PCI-to-PCI Bridge Architecture 1.2, chapter 9.1, with one rule for all bridges.
--     root_device, root_pin      the first device on the path, and the pin that is reached there
use Rattle.std.specs.Prelude.{[], ◌∷◌, ℕ, ◌-◌, ◌+◌, ◌%◌, sum_by}
use Rattle.model_board.specs.Paths.{Path}

-- the pin of the path's first device that pin 1 to 4 of the function reaches
abbrev pub root_pin : Path → ℕ → ℕ
root_pin [] pin = pin
root_pin (p ∷ ps) pin = (pin - 1 + sum_by (λ q. q.device) ps) % 4 + 1

-- the device on bus 0 that the path passes through
abbrev pub root_device : Path → ℕ
root_device [] = 0
root_device (p ∷ ps) = p.device
