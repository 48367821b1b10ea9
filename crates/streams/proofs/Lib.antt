mod Transfers
