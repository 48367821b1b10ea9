-- Converts the decode modes of a bridge's windows between the program's types and the formal model.
--     io_decode_of, named_io_decode      for the I/O window, from the program's type and back
--     pref_decode_of, named_pref_decode      for the prefetchable window
use Rattle.model_registers.specs.Declarations.{no_io, io16, io32, no_pref, pref32, pref64}
use Rattle.headers.specs.declared.decodes.{IoDecode.IoDecode, PrefDecode.PrefDecode}
use Rattle.model_registers.specs.Declarations as model
use Rattle.headers.specs.declared.decodes.IoDecode.TheVariants as io
use Rattle.headers.specs.declared.decodes.PrefDecode.TheVariants as pref

abbrev pub io_decode_of : IoDecode → model.IoDecode
io_decode_of io.Unimplemented = no_io
io_decode_of io.Bits16 = io16
io_decode_of io.Bits32 = io32

abbrev pub named_io_decode : model.IoDecode → IoDecode
named_io_decode no_io = io.Unimplemented
named_io_decode io16 = io.Bits16
named_io_decode io32 = io.Bits32

abbrev pub pref_decode_of : PrefDecode → model.PrefDecode
pref_decode_of pref.Unimplemented = no_pref
pref_decode_of pref.Bits32 = pref32
pref_decode_of pref.Bits64 = pref64

abbrev pub named_pref_decode : model.PrefDecode → PrefDecode
named_pref_decode no_pref = pref.Unimplemented
named_pref_decode pref32 = pref.Bits32
named_pref_decode pref64 = pref.Bits64
