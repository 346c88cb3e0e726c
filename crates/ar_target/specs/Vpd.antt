-- The pages of vital product data (VPD) of a unit. Each begins with the peripheral (00h: a direct access block device
-- is connected), its PAGE CODE, and the length of what follows.
use Rattle.std.specs.Prelude.{ℕ, ◌+◌, ◌-◌, ◌/◌, ◌%◌, ◌==◌, max, nat_lt, if◌then◌else◌, List, [], ◌∷◌, ◌++◌, codes}
use Rattle.std.specs.Prelude.{replicate}
use Rattle.std.specs.Int.{w16, w32, to_be_bytes}
use Rattle.ar_target.specs.declared.attributes.Attributes.{Attributes}
use Rattle.ar_target.specs.declared.request.VpdPage.{VpdPage}
use Rattle.ar_target.specs.declared.request.VpdPage.TheVariants.{SupportedPages, UnitSerialNumber, DeviceIdentification}
use Rattle.ar_target.specs.declared.request.VpdPage.TheVariants.{BlockLimits, BlockDeviceCharacteristics}
use Rattle.ar_target.specs.declared.request.VpdPage.TheVariants.{LogicalBlockProvisioning}

-- the hexadecimal digit of a number below 16, in ASCII
unfoldable pub hex_digit : ℕ → ℕ
hex_digit n = if nat_lt n 10 then 48 + n else 55 + n

-- the two digits of each byte
abbrev pub hex_digits : List ℕ → List ℕ
hex_digits [] = []
hex_digits (byte ∷ bytes) = hex_digit (byte / 16) ∷ hex_digit (byte % 16) ∷ hex_digits bytes

-- what tells a unit from all others: its array in four bytes, its host, its LUN, and its generation, how many units
-- were made at that LUN before it, in two
abbrev pub unit_name : ℕ → ℕ → ℕ → ℕ → List ℕ
unit_name array host lun generation = to_be_bytes w32 array ++ (host ∷ lun ∷ to_be_bytes w16 generation)

-- PRODUCT SERIAL NUMBER: the unit's name in sixteen hexadecimal digits
abbrev pub serial_number : ℕ → ℕ → ℕ → ℕ → List ℕ
serial_number array host lun generation = hex_digits (unit_name array host lun generation)

-- Supported VPD pages (SPC-3, Supported VPD pages): the codes of the pages, ascending
abbrev pub supported_pages : List ℕ
supported_pages = 0x00 ∷ 0x00 ∷ 0x00 ∷ 0x06 ∷ 0x00 ∷ 0x80 ∷ 0x83 ∷ 0xB0 ∷ 0xB1 ∷ 0xB2 ∷ []

-- the same at a LUN without a unit: PERIPHERAL QUALIFIER 011b, PERIPHERAL DEVICE TYPE 1Fh, and this page alone (SPC-3,
-- INQUIRY command and Standard INQUIRY data)
abbrev pub absent_pages : List ℕ
absent_pages = 0x7F ∷ 0x00 ∷ 0x00 ∷ 0x01 ∷ 0x00 ∷ []

-- Unit Serial Number (SPC-3, Unit Serial Number VPD page)
unfoldable pub unit_serial_number : ℕ → ℕ → ℕ → ℕ → List ℕ
unit_serial_number array host lun generation =
    (0x00 ∷ 0x80 ∷ 0x00 ∷ 0x10 ∷ []) ++ serial_number array host lun generation

-- a designator of the logical unit in ASCII, T10 vendor ID based: AUTORAID and the serial number (SPC-3, T10 vendor
-- ID based designator format)
abbrev pub vendor_designator : ℕ → ℕ → ℕ → ℕ → List ℕ
vendor_designator array host lun generation =
    (0x02 ∷ 0x01 ∷ 0x00 ∷ 0x18 ∷ 0x41 ∷ 0x55 ∷ 0x54 ∷ 0x4F ∷ 0x52 ∷ 0x41 ∷ 0x49 ∷ 0x44 ∷ [])
    ++ serial_number array host lun generation

-- the generation as the NAA designator has it, which has twelve bits for it
abbrev pub short_generation : ℕ → ℕ
short_generation generation = generation % 4096

-- the first two bytes of the NAA designator: NAA 3h, and the generation's twelve bits
abbrev pub naa_front : ℕ → List ℕ
naa_front short = (0x30 + short / 256) ∷ (short % 256) ∷ []

-- a designator of the logical unit in binary, NAA Locally Assigned (3h), of 64 bits: the generation modulo 4096, the
-- array, the host, the LUN (SPC-3, NAA Locally Assigned designator format)
abbrev pub naa_designator : ℕ → ℕ → ℕ → ℕ → List ℕ
naa_designator array host lun generation =
    (0x01 ∷ 0x03 ∷ 0x00 ∷ 0x08 ∷ [])
    ++ (naa_front (short_generation generation) ++ (to_be_bytes w32 array ++ (host ∷ lun ∷ [])))

-- the name of the target port of a host: that of its target, and of the one portal group (SPC-4, SCSI name string
-- designator format; RFC 7143, 4.2.7.4)
abbrev pub port_name : ℕ → List ℕ
port_name host = codes "iqn.2026-11.example.autoraid:host" ++ ((48 + host % 10) ∷ codes ",t,0x0001")

-- designators of the target port, over iSCSI (PIV, PROTOCOL IDENTIFIER 5h): relative target port 1, target port group
-- 1, and the port's name with a zero byte (SPC-4, Relative target port, Target port group and SCSI name string
-- designator formats)
abbrev pub port_designators : ℕ → List ℕ
port_designators host =
    (0x51 ∷ 0x94 ∷ 0x00 ∷ 0x04 ∷ 0x00 ∷ 0x00 ∷ 0x00 ∷ 0x01 ∷ [])
    ++ ((0x51 ∷ 0x95 ∷ 0x00 ∷ 0x04 ∷ 0x00 ∷ 0x00 ∷ 0x00 ∷ 0x01 ∷ [])
    ++ ((0x53 ∷ 0x98 ∷ 0x00 ∷ 0x2C ∷ []) ++ (port_name host ++ 0x00 ∷ [])))

-- the designators of the logical unit
abbrev pub unit_designators : ℕ → ℕ → ℕ → ℕ → List ℕ
unit_designators array host lun generation =
    vendor_designator array host lun generation ++ naa_designator array host lun generation

-- Device Identification (SPC-3, Device Identification VPD page)
unfoldable pub device_identification : ℕ → ℕ → ℕ → ℕ → List ℕ
device_identification array host lun generation =
    (0x00 ∷ 0x83 ∷ 0x00 ∷ 0x68 ∷ []) ++ (unit_designators array host lun generation ++ port_designators host)

-- REPORT TARGET PORT GROUPS data (SPC-4, REPORT TARGET PORT GROUPS command): RETURN DATA LENGTH; group 1 is
-- active/optimized, the only state that it supports; it has one port, relative target port 1
abbrev pub port_groups : List ℕ
port_groups =
    0x00 ∷ 0x00 ∷ 0x00 ∷ 0x0C ∷ 0x00 ∷ 0x01 ∷ 0x00 ∷ 0x01 ∷ 0x00 ∷ 0x00 ∷ 0x00 ∷ 0x01 ∷ 0x00 ∷ 0x00 ∷ 0x00 ∷ 0x01 ∷ []

-- the sectors of an optimal transfer: as many whole blocks as 1 MiB has, or one that is longer
abbrev pub optimal_sectors : ℕ → ℕ
optimal_sectors block = if block == 0 then 0 else max block (2048 - 2048 % block)

-- the first half of Block Limits: WSNZ (WRITE SAME of no blocks is refused), OPTIMAL TRANSFER LENGTH GRANULARITY is the
-- array's block, MAXIMUM TRANSFER LENGTH 65,535 blocks, OPTIMAL TRANSFER LENGTH about 1 MiB, MAXIMUM UNMAP LBA COUNT
-- 2^20 blocks in up to 256 descriptors, and OPTIMAL UNMAP GRANULARITY the array's block
abbrev pub transfer_limits : ℕ → List ℕ
transfer_limits block =
    (0x00 ∷ 0xB0 ∷ 0x00 ∷ 0x3C ∷ 0x01 ∷ 0x00 ∷ [])
    ++ (to_be_bytes w16 block
    ++ ((0x00 ∷ 0x00 ∷ 0xFF ∷ 0xFF ∷ to_be_bytes w32 (optimal_sectors block))
    ++ (0x00 ∷ 0x00 ∷ 0x00 ∷ 0x00 ∷ 0x00 ∷ 0x10 ∷ 0x00 ∷ 0x00 ∷ 0x00 ∷ 0x00 ∷ 0x01 ∷ 0x00 ∷ 0x00 ∷ 0x00
    ∷ to_be_bytes w16 block)))

-- Block Limits (SBC-3, Block Limits VPD page): the second half has UGAVALID, UNMAP GRANULARITY ALIGNMENT 0, and MAXIMUM
-- WRITE SAME LENGTH 2^20 blocks
unfoldable pub block_limits : ℕ → List ℕ
block_limits block =
    transfer_limits block
    ++ ((0x80 ∷ 0x00 ∷ 0x00 ∷ 0x00 ∷ 0x00 ∷ 0x00 ∷ 0x00 ∷ 0x00 ∷ 0x00 ∷ 0x10 ∷ []) ++ replicate 22 0)

-- Logical Block Provisioning (SBC-3, Logical Block Provisioning VPD page): LBPU, LBPWS and LBPWS10, blocks are unmapped
-- by UNMAP and by either WRITE SAME; LBPRZ, they read as zeros; PROVISIONING TYPE 010b, thin
abbrev pub logical_block_provisioning : List ℕ
logical_block_provisioning = 0x00 ∷ 0xB2 ∷ 0x00 ∷ 0x04 ∷ 0x00 ∷ 0xE4 ∷ 0x02 ∷ 0x00 ∷ []

-- Block Device Characteristics (SBC-3, Block Device Characteristics VPD page): MEDIUM ROTATION RATE 0001h, a medium
-- that doesn't rotate; no nominal form factor
unfoldable pub block_device_characteristics : List ℕ
block_device_characteristics = (0x00 ∷ 0xB1 ∷ 0x00 ∷ 0x3C ∷ 0x00 ∷ 0x01 ∷ []) ++ replicate 58 0

-- the page of the unit at a LUN, of this generation
abbrev pub vpd_data : Attributes → ℕ → ℕ → VpdPage → List ℕ
vpd_data attributes lun generation SupportedPages = supported_pages
vpd_data attributes lun generation UnitSerialNumber =
    unit_serial_number attributes.array attributes.host lun generation
vpd_data attributes lun generation DeviceIdentification =
    device_identification attributes.array attributes.host lun generation
vpd_data attributes lun generation BlockLimits = block_limits attributes.block_sectors
vpd_data attributes lun generation BlockDeviceCharacteristics = block_device_characteristics
vpd_data attributes lun generation LogicalBlockProvisioning = logical_block_provisioning
