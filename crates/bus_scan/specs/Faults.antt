-- The reasons why set-up refuses a board (this project's own numbers).
--     number_of      the number of a refusal
--     fault_words      the message of a refusal
use Rattle.std.specs.Prelude.{ℕ, List, codes}
use Rattle.bus_scan.specs.declared.fault.Fault.{Fault, TheVariants.{Buses, NoIoWindow, IoPool, MemoryPool, PrefetchablePool, Memory}}

abbrev pub number_of : Fault → ℕ
number_of Buses = 201
number_of NoIoWindow = 202
number_of IoPool = 203
number_of MemoryPool = 204
number_of PrefetchablePool = 205
number_of Memory = 299

abbrev pub fault_words : Fault → List ℕ
fault_words Buses = codes "buses"
fault_words NoIoWindow = codes "no I/O window"
fault_words IoPool = codes "I/O pool"
fault_words MemoryPool = codes "memory pool"
fault_words PrefetchablePool = codes "prefetchable pool"
fault_words Memory = codes "memory"
