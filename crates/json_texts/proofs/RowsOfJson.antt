-- Reports of boards as JSON.
use Rattle.std.{proofs.Common.{◌≡◌, [], ◌∷◌, ◌++◌, codes, refl}, specs.Fmt.digits}
use Rattle.serde_json.proofs.OnLiterals.{serde_json_on_literals}
use Rattle.model_registers.specs.{Cell.constant, Capabilities.with_capabilities}
use Rattle.model_board.specs.{Board.endpoint, Examples.{part, function_at, plain}}
use Rattle.model_guests.specs.Examples.{main_world, wide_world, bare}
use Rattle.json_texts.specs.ReportValue.{report_json_text}

-- a bridge, and an endpoint without an interrupt
json_of_the_main_board : report_json_text main_world ≡
    codes "{\"bridges\":1,\"endpoints\":3,\"functions\":[{\"bus\":0,\"capabilities\":[],\"device\":1,\"device_id\":1,"
    ++ codes "\"function\":0,\"interrupt\":{\"pin\":\"INTA\",\"root_device\":1,\"root_pin\":\"INTA\"},"
    ++ codes "\"path\":\"1.0\",\"regions\":[{\"bar\":0,\"base\":8192,\"kind\":\"io\",\"size\":32},"
    ++ codes "{\"bar\":1,\"base\":3222274048,\"kind\":\"mem32\",\"size\":4096}],\"type\":\"endpoint\","
    ++ codes "\"vendor\":4660},{\"bus\":0,\"buses\":{\"primary\":0,\"secondary\":1,\"subordinate\":1},"
    ++ codes "\"device\":2,\"device_id\":2,\"function\":0,\"path\":\"2.0\",\"type\":\"bridge\","
    ++ codes "\"vendor\":4660,\"windows\":{\"io\":{\"first\":4096,\"last\":8191},"
    ++ codes "\"mem\":{\"first\":3221225472,\"last\":3222274047},\"pref\":{\"first\":17179869184,"
    ++ codes "\"last\":17196646399}}},{\"bus\":1,\"capabilities\":[],\"device\":0,\"device_id\":3,\"function\":0,"
    ++ codes "\"interrupt\":null,\"path\":\"2.0/0.0\",\"regions\":[{\"bar\":0,\"base\":3221225472,"
    ++ codes "\"kind\":\"mem32\",\"size\":1048576},{\"bar\":1,\"base\":4096,\"kind\":\"io\","
    ++ codes "\"size\":8}],\"type\":\"endpoint\",\"vendor\":4660},{\"bus\":1,\"capabilities\":[],\"device\":1,"
    ++ codes "\"device_id\":4,\"function\":0,\"interrupt\":{\"pin\":\"INTA\",\"root_device\":2,"
    ++ codes "\"root_pin\":\"INTB\"},\"path\":\"2.0/1.0\",\"regions\":[{\"bar\":0,"
    ++ codes "\"base\":17179869184,\"kind\":\"mem64p\",\"size\":16777216}],\"type\":\"endpoint\","
    ++ codes "\"vendor\":4660}],\"guests\":[{\"name\":\"a\",\"slots\":[{\"path\":\"1.0\",\"slot\":0},"
    ++ codes "{\"path\":\"2.0/1.0\",\"slot\":1}]},{\"name\":\"b\",\"slots\":[{\"path\":\"2.0/0.0\","
    ++ codes "\"slot\":0}]}]}\n"
unfolding digits serde_json_on_literals
json_of_the_main_board = refl

json_of_every_kind : report_json_text wide_world ≡
    codes "{\"bridges\":0,\"endpoints\":1,\"functions\":[{\"bus\":0,\"capabilities\":[],\"device\":3,"
    ++ codes "\"device_id\":4161,\"function\":0,\"interrupt\":{\"pin\":\"INTC\",\"root_device\":3,"
    ++ codes "\"root_pin\":\"INTC\"},\"path\":\"3.0\",\"regions\":[{\"bar\":0,\"base\":4096,"
    ++ codes "\"kind\":\"io\",\"size\":256},{\"bar\":1,\"base\":3222274048,\"kind\":\"mem32p\","
    ++ codes "\"size\":16},{\"bar\":2,\"base\":3221225472,\"kind\":\"mem64\",\"size\":1048576},"
    ++ codes "{\"bar\":4,\"base\":34359738368,\"kind\":\"mem64p\",\"size\":8589934592}],"
    ++ codes "\"type\":\"endpoint\",\"vendor\":6900}],\"guests\":[{\"name\":\"a\","
    ++ codes "\"slots\":[{\"path\":\"3.0\",\"slot\":0}]}]}\n"
unfolding digits serde_json_on_literals
json_of_every_kind = refl

-- in the order of the list, not of the offsets
json_of_a_list : report_json_text (bare (function_at (part 5 0 ∷ []) (endpoint (with_capabilities (record { id = 0x11; offset = 0x80; cells = constant 3 ∷ constant 0 ∷ [] } ∷ record { id = 9; offset = 0x40; cells = constant 2 ∷ [] } ∷ []) (plain 6 0 0 []))) ∷ [])) ≡
    codes "{\"bridges\":0,\"endpoints\":1,\"functions\":[{\"bus\":0,\"capabilities\":["
    ++ codes "{\"id\":17,\"off\":128,\"size\":4},{\"id\":9,\"off\":64,\"size\":3}],"
    ++ codes "\"device\":5,\"device_id\":6,\"function\":0,\"interrupt\":null,\"path\":\"5.0\","
    ++ codes "\"regions\":[],\"type\":\"endpoint\",\"vendor\":4660}],\"guests\":[]}\n"
unfolding digits serde_json_on_literals
json_of_a_list = refl

json_of_no_function : report_json_text (bare []) ≡
    codes "{\"bridges\":0,\"endpoints\":0,\"functions\":[],\"guests\":[]}\n"
unfolding digits serde_json_on_literals
json_of_no_function = refl
