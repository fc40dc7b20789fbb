mod InOrder
