-- The tests of components and of client names, beside the relations that they tell.
use Rattle.std.specs.Prelude.{ℕ, ◌==◌, ◌&&◌, Bool, not, nat_le, List, length}
use Rattle.std.specs.List.{list_all}

-- a byte of a component: it can be seen, and is no slash
abbrev pub is_component_byte : ℕ → Bool
is_component_byte byte = nat_le 33 byte && (nat_le byte 126 && not (byte == 47))

-- 1 to 288 of them
abbrev pub is_component : List ℕ → Bool
is_component part =
    nat_le 1 (length part) && (nat_le (length part) 288 && list_all is_component_byte part)

-- 1 to 255 of them, and none a tilde
abbrev pub is_client_name : List ℕ → Bool
is_client_name name = nat_le 1 (length name) && (nat_le (length name) 255
    && list_all (λ byte. is_component_byte byte && not (byte == 126)) name)
