-- The room of a chapter, by numbers. Promises cite it.
use Rattle.std.specs.Prelude.{ℕ, ◌≡◌, ◌⊎◌, ◌==◌, is_err, true, Option, None, Some, Ok, if◌then◌else◌}
use Rattle.reg_base.specs.Shape.{Extent, shape_of}
use Rattle.reg_node.specs.Rooms.{HasRoom, IsNoRoom, entries_of, operations_of}
use Rattle.reg_node.specs.declared.rooms.Room.{Room}
use Rattle.reg_node.specs.declared.rooms.NoRoom.{NoRoom}
use Rattle.reg_node.specs.declared.rooms.NoRoom.TheVariants.{NoBeginning, BadOperations, BadEntries}
use Rattle.reg_c.specs.declared.rooms.RoomRow.{RoomRow}
use Rattle.reg_c.specs.Events.{no_shape}

-- the greatest number stands for none
abbrev pub given : ℕ → Option ℕ
given number = if number == 18446744073709551615 then None else Some number

abbrev pub with_room : RoomRow → Room → RoomRow
with_room row room =
    record row { operations = room.operations; total = room.total; entries = room.entries; ahead = room.ahead }

-- the numbers that there can be
abbrev pub with_limits : RoomRow → NoRoom → RoomRow
with_limits row (NoBeginning least most) = record row { least = least; most = most }
with_limits row (BadOperations least most) = record row { least = least; most = most }
with_limits row (BadEntries least most) = record row { least = least; most = most }

abbrev pub no_room_code : NoRoom → ℕ
no_room_code (NoBeginning least most) = 81
no_room_code (BadOperations least most) = 82
no_room_code (BadEntries least most) = 83

-- the room of such a chapter is told, or why there is none
abbrev pub TellsRoomOf : Extent → ℕ → ℕ → RoomRow → RoomRow → ℕ → Type 0
TellsRoomOf shape operations entries old new code =
    ((room : Room) × HasRoom shape operations entries room × (code ≡ 0) × (new ≡ with_room old room))
    ⊎ ((fault : NoRoom) × IsNoRoom shape operations entries fault × (code ≡ no_room_code fault)
    × (new ≡ with_limits old fault))

-- the same by numbers that may be no shape
abbrev pub TellsRoom : ℕ → ℕ → ℕ → ℕ → RoomRow → RoomRow → ℕ → Type 0
TellsRoom processes registers operations entries old new code =
    ((code ≡ no_shape) × (is_err (shape_of processes registers) ≡ true) × (new ≡ old))
    ⊎ ((shape : Extent) × (shape_of processes registers ≡ Ok shape)
    × TellsRoomOf shape (operations_of (given operations)) (entries_of shape (given entries)) old new code)
